use Rattle.std.proofs.Common.{ap, ◌∙◌, max, arith}
use Rattle.std.proofs.lemmas.List.{take_all}
use Rattle.au_syntax.specs.declared.statements.Arm.{size-Arm}
use Rattle.au_syntax.specs.declared.statements.Branch.{size-Branch}
use Rattle.au_syntax.specs.Views as view
use Rattle.au_syntax.specs.Plain as plain
use Rattle.au_syntax.specs.Depths as spec
use Rattle.au_syntax.proofs.StatementLemmas.{let_says, destructure_says, assign_says, assign_through_says}
use Rattle.au_syntax.proofs.StatementLemmas.{if_says, if_else_says, case_says, while_says, for_says}
use Rattle.au_syntax.proofs.StatementLemmas.{borrow_says, borrow_typed_says, call_says, return_says}
use Rattle.au_syntax.proofs.StatementLemmas.{skip_says}
use Rattle.au_syntax.proofs.DepthLemmas as lemmas
use Rattle.au_mapping.proofs.depths.+statement_depth.Goals as goal

pub block_depth-returns : goal.block_depth-returns
block_depth-returns g t c =
    c.loop-one.invariant ∙ ap (λ r. spec.counted (spec.block_depth (plain.plain_statements
    g.P.Phase.name_bytes (view.statement_all g.P.Phase r)))) (take_all c.loop-one.one-index
    c.deref-one-items.result.now c.loop-one-test.false ∙ c.deref-one-items.ensures.value)

pub block_depth-loop-one-preserved : goal.block_depth-loop-one-preserved
block_depth-loop-one-preserved g t c =
    let step = lemmas.deep_statements_more g.P.Phase c.deref-one-items.result.now c.loop-one.one-index
    c.one-item.result c.loop-one-test.true in
    let part = c.statement_depth-depth.ensures
    ∙ ap (λ one. spec.counted (spec.statement_depth
    (plain.plain_statement g.P.Phase.name_bytes (view.statement g.P.Phase one)))) c.one-item.is in
    lemmas.raised _ _ _ _ _ _ c.loop-one.invariant part c.deeper-deepest.ensures step

pub branches_depth-returns : goal.branches_depth-returns
branches_depth-returns g t c =
    c.loop-one.invariant ∙ ap (λ r. spec.counted (spec.branches_depth (plain.plain_branches
    g.P.Phase.name_bytes (view.branch_all g.P.Phase r)))) (take_all c.loop-one.one-index
    c.deref-one-items.result.now c.loop-one-test.false ∙ c.deref-one-items.ensures.value)

pub branches_depth-loop-one-preserved : goal.branches_depth-loop-one-preserved
branches_depth-loop-one-preserved g t c =
    let step = lemmas.deep_branches_more g.P.Phase c.deref-one-items.result.now c.loop-one.one-index
    c.one-item.result c.loop-one-test.true in
    let part = c.branch_depth-depth.ensures
    ∙ ap (λ one. spec.counted (max
    (spec.expression_depth (plain.plain_expression g.P.Phase.name_bytes
    (view.expression g.P.Phase one.test.value)))
    (spec.block_depth (plain.plain_statements g.P.Phase.name_bytes (view.block g.P.Phase one.block)))))
    c.one-item.is in
    lemmas.raised _ _ _ _ _ _ c.loop-one.invariant part c.deeper-deepest.ensures step

pub arms_depth-returns : goal.arms_depth-returns
arms_depth-returns g t c =
    c.loop-one.invariant ∙ ap (λ r. spec.counted (spec.arms_depth (plain.plain_arms g.P.Phase.name_bytes
    (view.arm_all g.P.Phase r)))) (take_all c.loop-one.one-index c.deref-one-items.result.now
    c.loop-one-test.false ∙ c.deref-one-items.ensures.value)

pub arms_depth-loop-one-preserved : goal.arms_depth-loop-one-preserved
arms_depth-loop-one-preserved g t c =
    let step = lemmas.deep_arms_more g.P.Phase c.deref-one-items.result.now c.loop-one.one-index
    c.one-item.result c.loop-one-test.true in
    let part = c.arm_depth-depth.ensures
    ∙ ap (λ one. spec.counted (spec.block_depth
    (plain.plain_statements g.P.Phase.name_bytes (view.block g.P.Phase one.block)))) c.one-item.is in
    lemmas.raised _ _ _ _ _ _ c.loop-one.invariant part c.deeper-deepest.ensures step

pub branches_depth-branch_depth-depth-requires : goal.branches_depth-branch_depth-depth-requires
branches_depth-branch_depth-depth-requires g t c κs within = (
  lemmas.item_falls (size-Branch _ _ _ _) c.deref-one-items.result.now c.args.branches.now.items
      c.loop-one.one-index c.one-item.result t
      c.decreases c.deref-one-items.ensures.value c.loop-one-test.true c.one-item.is,
  within,
)

pub arms_depth-arm_depth-depth-requires : goal.arms_depth-arm_depth-depth-requires
arms_depth-arm_depth-depth-requires g t c κs within = (
  lemmas.item_falls (size-Arm _ _ _ _) c.deref-one-items.result.now c.args.arms.now.items c.loop-one.one-index
      c.one-item.result t
      c.decreases c.deref-one-items.ensures.value c.loop-one-test.true c.one-item.is,
  within,
)

pub statement_depth-returns-in-Let : goal.statement_depth-returns-in-Let
statement_depth-returns-in-Let g t c = grind (arith, let_says)

pub statement_depth-returns-in-Destructure : goal.statement_depth-returns-in-Destructure
statement_depth-returns-in-Destructure g t c = grind (arith, destructure_says)

pub statement_depth-returns-in-Assign : goal.statement_depth-returns-in-Assign
statement_depth-returns-in-Assign g t c = grind (arith, assign_says)

pub statement_depth-returns-in-AssignThrough : goal.statement_depth-returns-in-AssignThrough
statement_depth-returns-in-AssignThrough g t c = grind (arith, assign_through_says)

pub statement_depth-returns-in-If : goal.statement_depth-returns-in-If
statement_depth-returns-in-If g t c = grind (arith, if_says)

pub statement_depth-returns-in-IfElse : goal.statement_depth-returns-in-IfElse
statement_depth-returns-in-IfElse g t c = grind (arith, if_else_says)

pub statement_depth-returns-in-Case : goal.statement_depth-returns-in-Case
statement_depth-returns-in-Case g t c = grind (arith, case_says)

pub statement_depth-returns-in-While : goal.statement_depth-returns-in-While
statement_depth-returns-in-While g t c = grind (arith, while_says)

pub statement_depth-returns-in-For : goal.statement_depth-returns-in-For
statement_depth-returns-in-For g t c = grind (arith, for_says)

pub statement_depth-returns-in-Borrow : goal.statement_depth-returns-in-Borrow
statement_depth-returns-in-Borrow g t c = grind (arith, borrow_says)

pub statement_depth-returns-in-BorrowTyped : goal.statement_depth-returns-in-BorrowTyped
statement_depth-returns-in-BorrowTyped g t c = grind (arith, borrow_typed_says)

pub statement_depth-returns-in-Call : goal.statement_depth-returns-in-Call
statement_depth-returns-in-Call g t c = grind (arith, call_says)

pub statement_depth-returns-in-Return : goal.statement_depth-returns-in-Return
statement_depth-returns-in-Return g t c = grind (arith, return_says)

pub statement_depth-returns-in-Skip : goal.statement_depth-returns-in-Skip
statement_depth-returns-in-Skip g t c = grind (arith, skip_says)
