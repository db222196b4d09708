use Rattle.std.proofs.Common.{◌≡◌, IfOk, ap, subst, sym, ◌∙◌}
use Rattle.std.specs.Option.{option_map}
use Rattle.au_types.proofs.TypeLemmas.{region_argument_means, type_argument_means}
use Rattle.au_types.specs.Views.{argument}
use Rattle.au_judged_types.specs.Judging.{unfit}
use Rattle.au_judged_types.specs.Views.{reason}
use Rattle.au_judged_types.proofs.FittingLemmas.{region_unfit, type_stands}
use Rattle.au_judged_types.proofs.fitting.unfit.Goals as goal

pub unfit_type-requires : goal.unfit_type-requires
unfit_type-requires c = type_stands c.args.scope.now.heads.now c.args.scope.now.params.now c.args.one.now
    c.in-Of.of c.in-Of.is c.requires

pub returns-in-Of : goal.returns-in-Of
returns-in-Of c =
    subst (λ one. IfOk c.unfit_type.result
    (λ why. option_map reason why ≡ unfit c.args.scope.now.heads.now c.args.scope.now.params.now
    c.args.wanted one))
    (sym (ap argument c.in-Of.is ∙ type_argument_means c.in-Of.of)) c.unfit_type.ensures

pub returns-in-In : goal.returns-in-In
returns-in-In c =
    let heads = c.args.scope.now.heads.now in
    let params = c.args.scope.now.params.now in
    sym (ap (unfit heads params c.args.wanted) (ap argument c.in-In.is ∙ region_argument_means c.in-In.field-0)
    ∙ region_unfit heads params c.args.wanted c.in-In.field-0)
