use Rattle.std.proofs.Common.{◌≡◌, map, take}
use Rattle.au_modules.specs.Slots as slots
use Rattle.au_names.specs.HeadsOf.{heads_of}
use Rattle.au_caps_types.specs.Naming.{naming_of}
use Rattle.au_caps_types.proofs.namings.namings_of.Given as goal

-- the rows so far
abbrev pub invariant-loop-index : goal.invariant-loop-index
invariant-loop-index l =
    l.list.items ≡ map (naming_of (slots.modules l.program)) (take l.index (heads_of (slots.modules l.program)))
