use Rattle.std.proofs.Common.{ap, map, ◌∙◌}
use Rattle.std.specs.Option.{option_copied}
use Rattle.au_noting.specs.Scopes.{scope_said}
use Rattle.au_judgements.specs.Said.{cases_said, heads_said}
use Rattle.au_judgements.specs.Steps.{names_fit}
use Rattle.au_judgements.proofs.StepLemmas.{fit_by_meanings}
use Rattle.au_judgements.proofs.arms.arms_fit.Goals as goal

pub returns : goal.returns
returns c =
    let cases = cases_said c.args.all.now in
    c.names_fit.ensures
    ∙ ap (λ meant. names_fit cases meant) (ap (map option_copied) c.as_slice.ensures.value ∙ c.in_ok-meant.ensures)
    ∙ fit_by_meanings (scope_said c.args.scope.now) cases (heads_said c.args.arms.now)
