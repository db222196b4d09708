use Rattle.std.proofs.Common.{◌≡◌, map, take}
use Rattle.au_typing.specs.Parts.{field_behind}
use Rattle.au_sights.specs.Sights.{typed_said}
use Rattle.au_judgements.proofs.unions.fields_behind.Given as goal

-- the fields so far
abbrev pub invariant-loop-one : goal.invariant-loop-one
invariant-loop-one l = map typed_said l.made.items
    ≡ map (field_behind l.access l.region) (map typed_said (take l.one-index l.one-items))
