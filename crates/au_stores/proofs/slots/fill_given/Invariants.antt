use Rattle.std.proofs.Common.{◌≡◌, ◌++◌, reverse}
use Rattle.au_stores.specs.Stores.{given_slots}
use Rattle.au_stores.proofs.slots.fill_given.Given as goal

-- the values that are left go upon those that were put, and the piles below are as before
abbrev pub invariant-loop-value : goal.invariant-loop-value
invariant-loop-value l = (l.piles.0 ++ given_slots (reverse l.values.items)
    ≡ given_slots (reverse l.fn.values.items))
    × (l.piles.1 ≡ l.fn.piles.1)

abbrev pub decreases-loop-value : goal.decreases-loop-value
decreases-loop-value l = goal.left-loop-value l
