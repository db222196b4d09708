use Rattle.std.proofs.Common.{◌≡◌, take}
use Rattle.au_matching.specs.Listed.{pairs}
use Rattle.au_matching.proofs.substitutions.copy_all.Given as goal

-- the bindings copied so far
abbrev pub invariant-loop-one : goal.invariant-loop-one
invariant-loop-one l = pairs l.copies.items ≡ pairs (take l.one-index l.one-items)
