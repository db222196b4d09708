use Rattle.std.proofs.Common.{◌≡◌, ◌+◌, length}
use Rattle.au_cells.specs.Cells.{lows}
use Rattle.au_stores.specs.Stores.{world_of, top_frame, filled}
use Rattle.au_stores.proofs.worlds.World.fill_slots.Given as goal

-- the values that are left go to the slots that come next
abbrev pub invariant-loop-value : goal.invariant-loop-value
invariant-loop-value l = (filled (top_frame l.self) l.at (lows l.value-iterator.rest.items) (world_of l.self)
    ≡ filled (top_frame l.fn.self) l.fn.slot (lows l.fn.values.items) (world_of l.fn.self))
    × (l.at + length l.value-iterator.rest.items ≡ l.fn.slot + length l.fn.values.items)
    × (length l.self.slots.0 ≡ length l.fn.self.slots.0)
    × (top_frame l.self ≡ top_frame l.fn.self)
