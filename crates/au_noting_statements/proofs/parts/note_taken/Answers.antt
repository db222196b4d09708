use Rattle.std.proofs.Common.{ap, ◌∙◌}
use Rattle.std.proofs.lemmas.Result.{err_from_is_err_and}
use Rattle.au_judgements.specs.Said.{binds_said}
use Rattle.au_noting.specs.Said.{all_typed}
use Rattle.au_noting.specs.Scopes.{scope_said}
use Rattle.au_noting_statements.specs.Noted.{boxed}
use Rattle.au_sights.specs.contracts.noted.NotedPhase.TheImpl.{ghosts as noted}
use Rattle.au_syntax.specs.contracts.parsed.ParsedPhase.TheImpl.{ghosts as parsed}
use Rattle.au_noting_expressions.specs.Said.{NotedCode}
use Rattle.au_syntax.specs.Views.{expression}
use Rattle.au_types.specs.Views.{meaning}
use Rattle.au_typing.specs.Notes.{type_of}
use Rattle.au_noting_statements.proofs.Steps.{stopped_by, taken_binds_stop}
use Rattle.au_noting_statements.proofs.parts.note_taken.Goals as goal

pub returns-in_err-judge_binds : goal.returns-in_err-judge_binds
returns-in_err-judge_binds c =
    let p = err_from_is_err_and c.from_residual-in_err-judge_binds.result
    c.from_residual-in_err-judge_binds.ensures.1 in
    stopped_by boxed c.from_residual-in_err-judge_binds.result _ _ _ p c.in_err-judge_binds.ensures
    (λ f h. taken_binds_stop (scope_said c.args.scope.now) (expression parsed c.args.value.now)
    (boxed c.in_ok-made.made) c.in_ok-made.ensures
    (meaning c.type_of.result.now)
    (c.type_of.ensures ∙ ap (λ (e : NotedCode). type_of (expression noted e)) c.deref.ensures)
    (binds_said c.args.binds.now.items) (all_typed c.in_ok-all.all.items) f c.in_ok-all.ensures h)
