use Rattle.std.proofs.Common.{◌≡◌, drop, None, Some, []}
use Rattle.au_lives.specs.Lives.{unlent}
use Rattle.au_lives.specs.Walks.{walk_block, reach}
use Rattle.au_paths.specs.Lendings.{held_within}
use Rattle.au_paths.specs.Seen.{seen_statements}
use Rattle.au_paths.specs.Standing.{reach_of}
use Rattle.au_paths.proofs.walks.walk_rest.Given as goal

-- no borrow statement is open, and what is left, from the states here, gives what the whole gives
abbrev pub invariant-loop-index : goal.invariant-loop-index
invariant-loop-index g l = record {
  none : l.borrows ≡ [];
  left : walk_block l.x l.sort (seen_statements g.P.Phase (drop l.index l.block.statements.items))
      (held_within l.x l.hidden []) (reach_of l.at)
      ≡ walk_block l.x l.sort (seen_statements g.P.Phase (drop l.from l.block.statements.items)) unlent
      (reach (Some []) None);
}
