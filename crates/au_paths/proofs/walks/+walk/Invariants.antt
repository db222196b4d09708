use Rattle.std.proofs.Common.{◌≡◌, drop}
use Rattle.au_lives.specs.Walks.{Reach, Walk, walk_block, walk_branches, nowhere}
use Rattle.au_paths.specs.Seen.{seen_statements, seen_branches, seen_arms}
use Rattle.au_paths.specs.Lendings.{held_within}
use Rattle.au_paths.specs.Standing.{reach_of, walk_each}
use Rattle.au_paths.specs.Walked.{held_in}
use Rattle.au_paths.proofs.walks.+walk.Given as goal

-- the same borrow statements are open, and what is left, from the states here, gives what the whole gives
abbrev pub invariant-walk_block-loop-one : goal.invariant-walk_block-loop-one
invariant-walk_block-loop-one g l = record {
  same : l.borrows ≡ l.fn.borrows;
  left : walk_block l.of.name.now l.of.sort (seen_statements g.P.Phase (drop l.one-index l.one-items))
      (held_within l.of.name.now l.hidden l.fn.borrows) (reach_of l.at)
      ≡ walk_block l.of.name.now l.of.sort (seen_statements g.P.Phase l.one-items)
      (held_in l.of l.fn.borrows) (reach_of l.fn.reach);
}

abbrev pub invariant-walk_branches-loop-number : goal.invariant-walk_branches-loop-number
invariant-walk_branches-loop-number g l = record {
  same : l.borrows ≡ l.fn.borrows;
  left : (other : Reach → Walk) →
      walk_branches l.of.name.now l.of.sort (seen_branches g.P.Phase (drop l.number l.branches.items))
      (held_in l.of l.fn.borrows) other l.number (reach_of l.fork.at) (reach_of l.fork.out)
      ≡ walk_branches l.of.name.now l.of.sort (seen_branches g.P.Phase l.branches.items)
      (held_in l.of l.fn.borrows) other 0 (reach_of l.fn.reach) nowhere;
}

abbrev pub invariant-walk_case-loop-number : goal.invariant-walk_case-loop-number
invariant-walk_case-loop-number g l = record {
  same : l.borrows ≡ l.fn.borrows;
  left : walk_each l.of.name.now l.of.sort (seen_arms g.P.Phase (drop l.number l.arms.items))
      (held_in l.of l.fn.borrows) l.number (reach_of l.reach) (reach_of l.out)
      ≡ walk_each l.of.name.now l.of.sort (seen_arms g.P.Phase l.arms.items) (held_in l.of l.fn.borrows) 0
      (reach_of l.reach) nowhere;
}
