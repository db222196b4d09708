use Rattle.std.proofs.Common.{take}
use Rattle.au_classes.proofs.MarkLemmas.{MarkSoFar}
use Rattle.au_classes.proofs.marks.marks_of.Given as goal

-- those are marked that are visited
abbrev pub invariant-loop-one : goal.invariant-loop-one
invariant-loop-one l = MarkSoFar (take l.one-index l.one-items) l.count l.marks.items
