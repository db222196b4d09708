use Rattle.std.proofs.Common.{◌≡◌, drop, if◌then◌else◌}
use Rattle.au_lives.specs.Lives.{hidden, unlent, held_from}
use Rattle.au_paths.specs.Lendings.{around, innermost_first}
use Rattle.au_paths.specs.Standing.{hold_of}
use Rattle.au_paths.proofs.borrows.OpenBorrows.hold.Given as goal

-- what is left, from the hold here, gives what the whole gives
abbrev pub invariant-loop-one : goal.invariant-loop-one
invariant-loop-one l =
    held_from l.x (around (innermost_first (drop l.one-index l.one-items))) (hold_of l.hold)
    ≡ held_from l.x (around (innermost_first l.one-items)) (if l.hidden then hidden else unlent)
