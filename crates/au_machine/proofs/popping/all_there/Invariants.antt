use Rattle.std.proofs.Common.{◌≡◌, ◌++◌, length, reverse}
use Rattle.au_cells.specs.Cells.{lows}
use Rattle.au_stores.specs.Stores.{slots_of}
use Rattle.au_machine.specs.States.{standing}
use Rattle.au_machine.proofs.popping.all_there.Given as goal

-- the values that are left go behind those that were put
abbrev pub invariant-loop-value : goal.invariant-loop-value
invariant-loop-value l = slots_of l.left.items ++ standing (reverse (lows l.values.items))
    ≡ standing (reverse (lows l.fn.values.items))

abbrev pub decreases-loop-value : goal.decreases-loop-value
decreases-loop-value l = length l.values.items
