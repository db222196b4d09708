use Rattle.std.proofs.Common.{ap, sym, ◌∙◌}
use Rattle.au_types.proofs.TypeLemmas.{region_argument_means, type_argument_means}
use Rattle.au_types.specs.Views.{argument}
use Rattle.au_matching.specs.Forming.{fits, takes}
use Rattle.au_matching.proofs.forming.fits.Goals as goal

pub returns-in-Of : goal.returns-in-Of
returns-in-Of c =
    c.takes.ensures
    ∙ ap (takes c.args.wanted) c.type_universe.ensures
    ∙ sym (ap (fits c.args.heads.now c.args.scope.now c.args.wanted)
    (ap argument c.in-Of.is ∙ type_argument_means c.in-Of.of))

pub returns-in-In : goal.returns-in-In
returns-in-In c =
    c.wants_region.ensures
    ∙ sym (ap (fits c.args.heads.now c.args.scope.now c.args.wanted)
    (ap argument c.in-In.is ∙ region_argument_means c.in-In.field-0))
