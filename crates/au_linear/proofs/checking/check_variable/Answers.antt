use Rattle.std.proofs.Common.{drop}
use Rattle.std.proofs.lemmas.Result.{err_from_is_err_and}
use Rattle.au_lives.specs.Scopes.{scope}
use Rattle.au_paths.specs.Seen.{seen_name, seen_statements}
use Rattle.au_linear.proofs.TellingLemmas as telling
use Rattle.au_linear.proofs.checking.check_variable.Goals as goal

pub returns-in_err-check_task : goal.returns-in_err-check_task
returns-in_err-check_task g c =
    let p = err_from_is_err_and c.from_residual.result c.from_residual.ensures.1 in
    rw (p.1, p.2) (telling.one_refused
    (scope (seen_name g.P.Phase c.args.name.now)
    (seen_statements g.P.Phase (drop c.args.from c.args.block.now.statements.items)))
    c.args.tasks.now c.args.next c.task_at.result c.in_err-check_task.field-0.0 c.task_at.ensures
    c.in_err-check_task.ensures)

pub returns : goal.returns
returns g c =
    telling.one_seen
    (scope (seen_name g.P.Phase c.args.name.now)
    (seen_statements g.P.Phase (drop c.args.from c.args.block.now.statements.items)))
    c.args.tasks.now c.args.next c.next_task.result c.task_at.result c.task_at.ensures
    c.in_ok-check_task.ensures c.next_task.ensures
