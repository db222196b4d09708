use Rattle.au_judged_types.specs.GenericViews.{generics_said}
use Rattle.au_judged_types.proofs.MeaningLemmas.{are_meant, fails_meant}
use Rattle.au_judged_types.proofs.reading.generics_of.Goals as goal

pub returns-in-Some : goal.returns-in-Some
returns-in-Some c =
    fails_meant c.args.visible.now c.args.heads.now c.in_ok-params.params (generics_said c.args.written.now)
    c.in-Some.found c.first_misfit.result
    c.in_ok-params.ensures c.first_misfit.ensures c.in-Some.is

pub returns-in_ok-classes-in-None : goal.returns-in_ok-classes-in-None
returns-in_ok-classes-in-None c =
    are_meant c.args.visible.now c.args.heads.now c.in_ok-params.params (generics_said c.args.written.now)
    c.first_misfit.result c.in_ok-classes-in-None.classes.items c.of.result
    c.in_ok-params.ensures c.first_misfit.ensures c.in-None.is c.in_ok-classes-in-None.ensures c.of.ensures
