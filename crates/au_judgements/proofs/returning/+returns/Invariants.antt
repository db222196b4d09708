use Rattle.std.proofs.Common.{◌≡◌, drop}
use Rattle.au_typing.specs.Returns.{arms_return, block_returns, branches_return}
use Rattle.au_syntax.specs.Views.{arm_all, branch_all, statement_all}
use Rattle.au_judgements.proofs.returning.+returns.Given as goal

-- no statement so far returns, so those that are left decide
abbrev pub invariant-block_returns-loop-one : goal.invariant-block_returns-loop-one
invariant-block_returns-loop-one g l =
    block_returns (statement_all g.P.Phase l.body.statements.items)
    ≡ block_returns (statement_all g.P.Phase (drop l.one-index l.one-items))

-- each block so far returns, so those that are left decide
abbrev pub invariant-branches_return-loop-one : goal.invariant-branches_return-loop-one
invariant-branches_return-loop-one g l =
    branches_return (branch_all g.P.Phase l.branches.items) ≡ branches_return
    (branch_all g.P.Phase (drop l.one-index l.one-items))

abbrev pub invariant-arms_return-loop-one : goal.invariant-arms_return-loop-one
invariant-arms_return-loop-one g l =
    arms_return (arm_all g.P.Phase l.arms.items) ≡ arms_return (arm_all g.P.Phase (drop l.one-index l.one-items))
