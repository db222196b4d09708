-- The bytes so far, without the blanks at their end, are the first bytes of this size.
use Rattle.std.proofs.Common.{◌≡◌, ◌≤◌, take}
use Rattle.au_format.specs.Layout.{trimmed}
use Rattle.au_format.proofs.remarks.trimmed.Given as goal

abbrev pub invariant-loop-index : goal.invariant-loop-index
invariant-loop-index l = (trimmed (take l.index l.bytes) ≡ take l.size l.bytes) × (l.size ≤ l.index)
