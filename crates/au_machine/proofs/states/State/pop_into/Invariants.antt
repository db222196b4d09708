use Rattle.std.proofs.Common.{◌≡◌, length}
use Rattle.au_cells.specs.Cells.{lows}
use Rattle.au_machine.specs.States.{machine_of, all_pushed}
use Rattle.au_machine.proofs.states.State.pop_into.Given as goal

-- what was popped stood upon what is left
abbrev pub invariant-loop-index : goal.invariant-loop-index
invariant-loop-index l = (machine_of l.fn.self ≡ all_pushed (lows l.cells.items) (machine_of l.self))
    × (length l.cells.items ≡ l._index)
    × (l.self.place ≡ l.fn.self.place)
    × (l.self.world ≡ l.fn.self.world)
