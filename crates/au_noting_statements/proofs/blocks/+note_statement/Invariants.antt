-- A statement is deeper than the blocks in it; what holds a block comes above it. What the loops keep: what is
-- noted, in front of what is still judged, is what is judged of all.
use Rattle.std.proofs.Common.{◌≡◌, ◌+◌, ◌*◌, drop, max}
use Rattle.au_typing.specs.DerivationSearch.{note_arms, note_block, note_branches}
use Rattle.au_judgements.specs.Leaving.{IsGrown}
use Rattle.au_noting.specs.Scopes.{scope_said}
use Rattle.au_noting_statements.specs.Noted.{all_boxed}
use Rattle.au_syntax.specs.contracts.parsed.ParsedPhase.TheImpl.{ghosts as parsed}
use Rattle.au_syntax.specs.Depths.{arms_depth, block_depth, branches_depth, statement_depth}
use Rattle.au_syntax.specs.Views.{arm_all, block, branch_all, statement, statement_all}
use Rattle.au_noting_statements.proofs.Fronts.{fronted, statements_before, branches_before, arms_before}
use Rattle.au_noting_statements.proofs.blocks.+note_statement.Given as goal

abbrev pub decreases-note_statement : goal.decreases-note_statement
decreases-note_statement l = 8 * statement_depth (statement parsed l.stmt.now)

abbrev pub decreases-note_block : goal.decreases-note_block
decreases-note_block l = 8 * block_depth (block parsed l.body.now) + 1

abbrev pub decreases-note_arm : goal.decreases-note_arm
decreases-note_arm l = 8 * block_depth (block parsed l.arm.now.block) + 2

abbrev pub decreases-note_branches : goal.decreases-note_branches
decreases-note_branches l = 8 * branches_depth (branch_all parsed l.branches.now.items) + 3

abbrev pub decreases-note_arms : goal.decreases-note_arms
decreases-note_arms l = 8 * arms_depth (arm_all parsed l.arms.now.items) + 3

abbrev pub decreases-note_if : goal.decreases-note_if
decreases-note_if l = 8 * branches_depth (branch_all parsed l.branches.now.items) + 4

abbrev pub decreases-note_if_else : goal.decreases-note_if_else
decreases-note_if_else l =
    8 * max (branches_depth (branch_all parsed l.branches.now.items)) (block_depth (block parsed l.last.now)) + 4

abbrev pub decreases-note_case_of : goal.decreases-note_case_of
decreases-note_case_of l = 8 * arms_depth (arm_all parsed l.arms.now.items) + 4

abbrev pub decreases-note_while : goal.decreases-note_while
decreases-note_while l = 8 * block_depth (block parsed l.body.now) + 4

abbrev pub decreases-note_for : goal.decreases-note_for
decreases-note_for l = 8 * block_depth (block parsed l.body.now) + 4

abbrev pub decreases-note_borrow : goal.decreases-note_borrow
decreases-note_borrow l = 8 * block_depth (block parsed l.body.now) + 4

abbrev pub decreases-note_borrow_typed : goal.decreases-note_borrow_typed
decreases-note_borrow_typed l = 8 * block_depth (block parsed l.body.now) + 4

-- the statements so far, and what is in scope behind them
abbrev pub invariant-note_block-loop-index : goal.invariant-note_block-loop-index
invariant-note_block-loop-index l = record {
  left : fronted (statements_before l.statements.items)
      (note_block (statement_all parsed (drop l.index l.stmt-items)) (scope_said l.scope))
      ≡ note_block (statement_all parsed l.stmt-items) (scope_said l.fn.scope);
  grown : IsGrown (scope_said l.fn.scope) (scope_said l.scope);
}

-- the branches so far, with as many tests
abbrev pub invariant-note_branches-loop-branch : goal.invariant-note_branches-loop-branch
invariant-note_branches-loop-branch l = record {
  left : fronted (branches_before l.made.items)
      (note_branches (branch_all parsed (drop l.branch-index l.branch-items)) (all_boxed l.tests.items)
      (scope_said l.fn.scope))
      ≡ note_branches (branch_all parsed l.branch-items) (all_boxed l.fn.tests.items) (scope_said l.fn.scope);
  same : scope_said l.scope ≡ scope_said l.fn.scope;
}

-- the arms so far
abbrev pub invariant-note_arms-loop-arm : goal.invariant-note_arms-loop-arm
invariant-note_arms-loop-arm l = record {
  left : fronted (arms_before l.made.items)
      (note_arms (arm_all parsed (drop l.arm-index l.arm-items)) (scope_said l.fn.scope))
      ≡ note_arms (arm_all parsed l.arm-items) (scope_said l.fn.scope);
  same : scope_said l.scope ≡ scope_said l.fn.scope;
}
