use Rattle.std.proofs.Common.{ap, subst, ◌∙◌}
use Rattle.au_typing.specs.DerivationSearch.{judge_binds}
use Rattle.au_noting.specs.Giving.{Gives}
use Rattle.au_noting.specs.Said.{all_typed}
use Rattle.au_noting.specs.Scopes.{scope_said}
use Rattle.au_sights.specs.Sights.{case_said}
use Rattle.au_judgements.specs.Said.{binds_said, cases_said, head_said}
use Rattle.au_judgements.proofs.StepLemmas.{found_arm}
use Rattle.au_judgements.proofs.arms.judge_arm.Goals as goal

pub returns-in-Some : goal.returns-in-Some
returns-in-Some c =
    let sc = scope_said c.args.scope.now in
    let one = c.in-Some.one.now in
    subst (Gives (λ x. tt) c.judge_binds.result)
    (ap (λ fields. judge_binds sc (all_typed fields) (binds_said c.as_slice-in-Some.result.now))
    c.as_slice.ensures.value
    ∙ ap (λ binds. judge_binds sc (all_typed one.fields.items) (binds_said binds)) c.as_slice-in-Some.ensures.value
    ∙ found_arm sc (cases_said c.args.all.now) (head_said c.args.arm.now) (case_said one) c.in-Some.ensures)
    c.judge_binds.ensures
