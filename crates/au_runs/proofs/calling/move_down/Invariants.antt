use Rattle.au_runs.proofs.MovingLemmas.{Moving}
use Rattle.au_runs.proofs.calling.move_down.Given as goal

-- the operands that are left are to move into the slots before those that are filled
abbrev pub invariant-moving : goal.invariant-moving
invariant-moving l = Moving l.fn.count l.left l.fn.operands l.operands l.fn.slots l.slots

abbrev pub decreases-moving : goal.decreases-moving
decreases-moving l = l.left
