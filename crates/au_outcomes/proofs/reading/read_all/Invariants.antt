-- What comes of the files that are left, comes of all.
use Rattle.au_outcomes.proofs.KeptLemmas.{HaltOn, KeepOn}
use Rattle.au_outcomes.proofs.reading.read_all.Given as goal

abbrev pub invariant-loop-index : goal.invariant-loop-index
invariant-loop-index l = KeepOn l.all l.index l.trees.items × HaltOn l.all l.index
