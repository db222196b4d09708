use Rattle.std.proofs.Common.{ap, ◌∙◌}
use Rattle.std.proofs.lemmas.Result.{err_from_is_err_and}
use Rattle.au_judgements.specs.Said.{cases_said, heads_said}
use Rattle.au_noting.specs.Scopes.{scope_said}
use Rattle.au_noting_statements.specs.Noted.{boxed}
use Rattle.au_sights.specs.contracts.noted.NotedPhase.TheImpl.{ghosts as noted}
use Rattle.au_syntax.specs.contracts.parsed.ParsedPhase.TheImpl.{ghosts as parsed}
use Rattle.au_noting_expressions.specs.Said.{NotedCode}
use Rattle.au_syntax.specs.Views.{expression}
use Rattle.au_types.specs.Views.{meaning}
use Rattle.au_typing.specs.Notes.{type_of}
use Rattle.au_noting_statements.proofs.Steps.{stopped_by, case_heads_stop, case_heads_hold}
use Rattle.au_noting_statements.proofs.parts.note_case.Goals as goal

pub returns-in_err-judge_heads : goal.returns-in_err-judge_heads
returns-in_err-judge_heads c =
    let p = err_from_is_err_and c.from_residual-in_err-judge_heads.result
    c.from_residual-in_err-judge_heads.ensures.1 in
    stopped_by boxed c.from_residual-in_err-judge_heads.result _ _ _ p c.in_err-judge_heads.ensures
    (λ f h. case_heads_stop (scope_said c.args.scope.now) (expression parsed c.args.value.now)
    (boxed c.in_ok-made.made) c.in_ok-made.ensures
    (meaning c.type_of.result.now)
    (c.type_of.ensures ∙ ap (λ (e : NotedCode). type_of (expression noted e)) c.deref.ensures)
    (heads_said c.args.arms.now.items) (cases_said c.in_ok-all.all.items) f c.in_ok-all.ensures h)

pub returns : goal.returns
returns c =
    case_heads_hold (scope_said c.args.scope.now) (expression parsed c.args.value.now)
    (boxed c.in_ok-made.made) c.in_ok-made.ensures
    (meaning c.type_of.result.now)
    (c.type_of.ensures ∙ ap (λ (e : NotedCode). type_of (expression noted e)) c.deref.ensures)
    (heads_said c.args.arms.now.items) (cases_said c.in_ok-all.all.items) c.in_ok-all.ensures
    c.in_ok-judge_heads.ensures
