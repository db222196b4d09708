use Rattle.std.proofs.Common.{◌≡◌, take}
use Rattle.au_judged_types.proofs.bounds.copy_all.Given as goal

-- the lists copied so far
abbrev pub invariant-loop-one : goal.invariant-loop-one
invariant-loop-one l = l.copies.items ≡ take l.one-index l.one-items
