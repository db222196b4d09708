use Rattle.std.proofs.Common.{subst, sym, ap, drop, None}
use Rattle.au_lives.specs.Scopes.{scope}
use Rattle.au_paths.specs.Seen.{seen_name, seen_statements}
use Rattle.au_linear.specs.Allotting.{told_by, Decides}
use Rattle.au_linear.proofs.checking.check_task.Goals as goal

pub returns-in-Cleared : goal.returns-in-Cleared
returns-in-Cleared g c =
    ap (λ t. told_by (scope (seen_name g.P.Phase c.args.name.now)
    (seen_statements g.P.Phase (drop c.args.from c.args.block.now.statements.items))) t None)
    c.in-Cleared.is

pub returns-in-Judge : goal.returns-in-Judge
returns-in-Judge g c =
    subst (Decides c.judge_variable.result
    (scope (seen_name g.P.Phase c.args.name.now)
    (seen_statements g.P.Phase (drop c.args.from c.args.block.now.statements.items))))
    (sym c.in-Judge.is) c.judge_variable.ensures
