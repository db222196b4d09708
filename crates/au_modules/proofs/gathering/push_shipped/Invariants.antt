use Rattle.std.proofs.Common.{◌≡◌, ◌++◌, drop}
use Rattle.au_modules.specs.Slots.{shipped_slots}
use Rattle.au_modules.proofs.gathering.push_shipped.Given as goal

-- what is there, and what is left, are all
abbrev pub invariant-loop-index : goal.invariant-loop-index
invariant-loop-index l = l.slots.items ++ shipped_slots l.index (drop l.index l.givens.items)
    ≡ l.initial.slots.items ++ shipped_slots 0 l.givens.items
