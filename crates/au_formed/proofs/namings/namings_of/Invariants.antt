use Rattle.std.proofs.Common.{◌≡◌, take}
use Rattle.std.specs.List.{filter_map}
use Rattle.au_formed.specs.Naming.{naming_at}
use Rattle.au_formed.specs.Said.{spots_said}
use Rattle.au_modules.specs.Slots as slots
use Rattle.au_formed.proofs.namings.namings_of.Given as goal

-- those of the declarations that are visited
abbrev pub invariant-loop-one : goal.invariant-loop-one
invariant-loop-one l = l.list.items
    ≡ filter_map (naming_at (slots.modules l.resolved)) (spots_said (take l.one-index l.one-items))
