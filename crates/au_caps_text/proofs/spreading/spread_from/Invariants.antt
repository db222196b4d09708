use Rattle.au_caps_text.proofs.PutLemmas.{SpreadTo}
use Rattle.au_caps_text.proofs.spreading.spread_from.Given as goal

-- the labels so far
abbrev pub invariant-loop-label : goal.invariant-loop-label
invariant-loop-label l = SpreadTo l.back l.labels l.made l.label
