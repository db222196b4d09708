use Rattle.std.proofs.Common.{◌≡◌, map, take}
use Rattle.au_typing.specs.Insides.{typed_under}
use Rattle.au_sights.specs.Sights.{typed_said}
use Rattle.au_sights.proofs.typing.all_under.Given as goal

-- the fields so far
abbrev pub invariant-loop-one : goal.invariant-loop-one
invariant-loop-one l = map typed_said l.made.items ≡ map (typed_under l.s)
    (map typed_said (take l.one-index l.one-items))
