use Rattle.std.proofs.Common.{arith, ap, sym, ◌∙◌}
use Rattle.std.proofs.lemmas.List.{at_drop_all}
use Rattle.au_typing.specs.Returns.{arms_return, block_returns, branches_return}
use Rattle.au_syntax.specs.Views.{arm_all, branch_all, statement_all}
use Rattle.au_judgements.proofs.ReturnLemmas.{arm_step, branch_step, statement_step}
use Rattle.au_syntax.proofs.StatementLemmas.{skip_says, let_says, destructure_says, assign_says}
use Rattle.au_syntax.proofs.StatementLemmas.{assign_through_says, if_says, if_else_says, case_says}
use Rattle.au_syntax.proofs.StatementLemmas.{while_says, for_says, borrow_says, borrow_typed_says, call_says}
use Rattle.au_syntax.proofs.StatementLemmas.{return_says}
use Rattle.au_judgements.proofs.returning.+returns.Goals as goal

pub returns-returns-in-Skip : goal.returns-returns-in-Skip
returns-returns-in-Skip g t c = grind (arith, skip_says)

pub returns-returns-in-Let : goal.returns-returns-in-Let
returns-returns-in-Let g t c = grind (arith, let_says)

pub returns-returns-in-Destructure : goal.returns-returns-in-Destructure
returns-returns-in-Destructure g t c = grind (arith, destructure_says)

pub returns-returns-in-Assign : goal.returns-returns-in-Assign
returns-returns-in-Assign g t c = grind (arith, assign_says)

pub returns-returns-in-AssignThrough : goal.returns-returns-in-AssignThrough
returns-returns-in-AssignThrough g t c = grind (arith, assign_through_says)

pub returns-returns-in-If : goal.returns-returns-in-If
returns-returns-in-If g t c = grind (arith, if_says)

pub returns-returns-then-branches_return : goal.returns-returns-then-branches_return
returns-returns-then-branches_return g t c = grind (arith, if_else_says)

pub returns-returns-else-branches_return : goal.returns-returns-else-branches_return
returns-returns-else-branches_return g t c = grind (arith, if_else_says)

pub returns-returns-in-Case : goal.returns-returns-in-Case
returns-returns-in-Case g t c = grind (arith, case_says)

pub returns-returns-in-While : goal.returns-returns-in-While
returns-returns-in-While g t c = grind (arith, while_says)

pub returns-returns-in-For : goal.returns-returns-in-For
returns-returns-in-For g t c = grind (arith, for_says)

pub returns-returns-in-Borrow : goal.returns-returns-in-Borrow
returns-returns-in-Borrow g t c = grind (arith, borrow_says)

pub returns-returns-in-BorrowTyped : goal.returns-returns-in-BorrowTyped
returns-returns-in-BorrowTyped g t c = grind (arith, borrow_typed_says)

pub returns-returns-in-Call : goal.returns-returns-in-Call
returns-returns-in-Call g t c = grind (arith, call_says)

pub returns-returns-in-Return : goal.returns-returns-in-Return
returns-returns-in-Return g t c = grind (arith, return_says)

pub block_returns-loop-one-init : goal.block_returns-loop-one-init
block_returns-loop-one-init g t c = ap (λ rest. block_returns (statement_all g.P.Phase rest))
    (sym c.deref-one-items.ensures.value)

pub block_returns-loop-one-preserved : goal.block_returns-loop-one-preserved
block_returns-loop-one-preserved g t c =
    grind (
      arith,
      statement_step g.P.Phase c.deref-one-items.result.now c.loop-one.one-index c.one-item.result
          c.loop-one-test.true c.one-item.is,
    )

pub block_returns-returns-then-returns : goal.block_returns-returns-then-returns
block_returns-returns-then-returns g t c =
    grind (
      arith,
      statement_step g.P.Phase c.deref-one-items.result.now c.loop-one.one-index c.one-item.result
          c.loop-one-test.true c.one-item.is,
    )

pub block_returns-returns : goal.block_returns-returns
block_returns-returns g t c =
    sym (c.loop-one.invariant ∙ at_drop_all (λ rest. block_returns (statement_all g.P.Phase rest))
    c.deref-one-items.result.now c.loop-one.one-index c.loop-one-test.false)

pub branches_return-loop-one-init : goal.branches_return-loop-one-init
branches_return-loop-one-init g t c = ap (λ rest. branches_return (branch_all g.P.Phase rest))
    (sym c.deref-one-items.ensures.value)

pub branches_return-loop-one-preserved : goal.branches_return-loop-one-preserved
branches_return-loop-one-preserved g t c =
    grind (
      arith,
      branch_step g.P.Phase c.deref-one-items.result.now c.loop-one.one-index c.one-item.result
          c.loop-one-test.true c.one-item.is,
    )

pub branches_return-returns-then-not-branch_returns : goal.branches_return-returns-then-not-branch_returns
branches_return-returns-then-not-branch_returns g t c =
    grind (
      arith,
      branch_step g.P.Phase c.deref-one-items.result.now c.loop-one.one-index c.one-item.result
          c.loop-one-test.true c.one-item.is,
    )

pub branches_return-returns : goal.branches_return-returns
branches_return-returns g t c =
    sym (c.loop-one.invariant ∙ at_drop_all (λ rest. branches_return (branch_all g.P.Phase rest))
    c.deref-one-items.result.now c.loop-one.one-index c.loop-one-test.false)

pub arms_return-loop-one-init : goal.arms_return-loop-one-init
arms_return-loop-one-init g t c = ap (λ rest. arms_return (arm_all g.P.Phase rest))
    (sym c.deref-one-items.ensures.value)

pub arms_return-loop-one-preserved : goal.arms_return-loop-one-preserved
arms_return-loop-one-preserved g t c =
    grind (
      arith,
      arm_step g.P.Phase c.deref-one-items.result.now c.loop-one.one-index c.one-item.result
          c.loop-one-test.true c.one-item.is,
    )

pub arms_return-returns-then-not-arm_returns : goal.arms_return-returns-then-not-arm_returns
arms_return-returns-then-not-arm_returns g t c =
    grind (
      arith,
      arm_step g.P.Phase c.deref-one-items.result.now c.loop-one.one-index c.one-item.result
          c.loop-one-test.true c.one-item.is,
    )

pub arms_return-returns : goal.arms_return-returns
arms_return-returns g t c =
    sym (c.loop-one.invariant ∙ at_drop_all (λ rest. arms_return (arm_all g.P.Phase rest))
    c.deref-one-items.result.now c.loop-one.one-index c.loop-one-test.false)
