use Rattle.std.proofs.Common.{take}
use Rattle.au_classes.proofs.MethodLemmas.{NamedSoFar}
use Rattle.au_classes.proofs.methods.methods_by_name.Given as goal

-- the table finds the methods that are visited, which have names of their own
abbrev pub invariant-loop-index : goal.invariant-loop-index
invariant-loop-index l = NamedSoFar l.one-items l.index l.table
