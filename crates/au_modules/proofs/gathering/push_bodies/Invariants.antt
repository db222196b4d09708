use Rattle.std.proofs.Common.{◌≡◌, ◌++◌, drop}
use Rattle.au_modules.specs.Slots.{body_slots}
use Rattle.au_modules.proofs.gathering.push_bodies.Given as goal

-- what is there, and what is left, are all
abbrev pub invariant-loop-index : goal.invariant-loop-index
invariant-loop-index l = l.slots.items ++ body_slots l.givens.items l.index (drop l.index l.givens.items)
    ≡ l.initial.slots.items ++ body_slots l.givens.items 0 l.givens.items
