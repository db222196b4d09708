use Rattle.std.proofs.Common.{ap, ◌∙◌}
use Rattle.std.specs.Prelude.{slice_get}
use Rattle.au_names.specs.Walks.{written_all}
use Rattle.au_names.specs.Standing.{standing_from}
use Rattle.au_names.proofs.StandingLemmas.{found_past, found_there}
use Rattle.au_names.proofs.declarations.declared_at.Goals as goal

pub returns-in-None : goal.returns-in-None
returns-in-None c =
    found_past c.args.place c.args.part c.deref.result.now c.args.index c.in-None.ensures.lookup.3
    ∙ ap (λ xs. slice_get (standing_from c.args.place c.args.part 0 (written_all xs)) c.args.index)
    c.deref.ensures.value

pub returns-in-Some : goal.returns-in-Some
returns-in-Some c =
    found_there c.args.place c.args.part c.deref.result.now c.args.index c.in-Some.decl.now
    c.in-Some.ensures.lookup.3.0 c.in-Some.ensures.lookup.1
    ∙ ap (λ xs. slice_get (standing_from c.args.place c.args.part 0 (written_all xs)) c.args.index)
    c.deref.ensures.value
