-- What comes of the files that are left, comes of all.
use Rattle.au_outcomes.proofs.KeptLemmas.{HaltOn}
use Rattle.au_outcomes.proofs.LaidLemmas.{LayOn}
use Rattle.au_outcomes.proofs.layouts.lay_out_all.Given as goal

abbrev pub invariant-loop-index : goal.invariant-loop-index
invariant-loop-index l = LayOn l.all l.index l.text.items × HaltOn l.all l.index
