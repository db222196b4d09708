use Rattle.au_matching.proofs.ListedLemmas.{Behind}
use Rattle.au_matching.proofs.substitutions.place_of.Given as goal

-- the name's place is behind the bindings so far
abbrev pub invariant-loop-index : goal.invariant-loop-index
invariant-loop-index l = Behind l.name l.bindings.items l.index
