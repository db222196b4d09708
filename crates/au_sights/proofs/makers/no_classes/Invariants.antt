use Rattle.std.proofs.Common.{◌≡◌, [], map, take}
use Rattle.au_sights.proofs.makers.no_classes.Given as goal

-- one for each type parameter so far
abbrev pub invariant-loop-index : goal.invariant-loop-index
invariant-loop-index l = l.classes.items ≡ map (λ p. []) (take l.index l.params)
