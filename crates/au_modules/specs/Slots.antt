-- Where the parts of modules lie among the files that give them.
use Rattle.std.specs.Prelude.{ℕ, ◌+◌, Bool, not, ◌&&◌, if◌then◌else◌, List, [], ◌∷◌, ◌++◌, map, Option, Some}
use Rattle.std.specs.Prelude.{None, slice_get, position}
use Rattle.std.specs.Str.{bytes_eq}
use Rattle.au_modules.specs.declared.modules.Modules.{Modules}
use Rattle.au_modules.specs.declared.modules.Slot.{Slot}
use Rattle.au_modules.specs.declared.parts.Given.{Given}
use Rattle.au_syntax.specs.Plain.{Bytes}
use Rattle.au_modules.specs.Programs.{Entry, entry, ModuleParts, is_interface}

-- the file of this index
abbrev pub file_at : List Entry → Option ℕ → Option Entry
file_at files None = None
file_at files (Some i) = slice_get files i

-- the module of which the parts lie there
abbrev pub parts_at : List Entry → Slot → ModuleParts
parts_at files slot =
    record { name = slot.name; interface = file_at files slot.interface; body = file_at files slot.body }

-- what modules are, by their places
abbrev pub modules : Modules → List ModuleParts
modules m = map (parts_at (map entry m.files.items)) m.slots.items

-- a shipped interface of this index
abbrev pub shipped_slot : ℕ → Given → Slot
shipped_slot index g = record { name = g.name; interface = Some index; body = None }

-- shipped interfaces, of which the first has this index
abbrev pub shipped_slots : ℕ → List Given → List Slot
shipped_slots index [] = []
shipped_slots index (g ∷ rest) =
    if g.shipped then shipped_slot index g ∷ shipped_slots (index + 1) rest else shipped_slots
    (index + 1) rest

-- the interface of the module of this name
abbrev pub gives_interface : Bytes → Given → Bool
gives_interface name g = is_interface g.part && bytes_eq name g.name

-- a body of the user's
abbrev pub gives_body : Given → Bool
gives_body g = not g.shipped && not (is_interface g.part)

-- a body of this index, with the interface that one of these files gives
abbrev pub body_slot : List Given → ℕ → Given → Slot
body_slot all index g =
    record { name = g.name; interface = position (gives_interface g.name) all; body = Some index }

-- bodies, the first of what is left having this index
abbrev pub body_slots : List Given → ℕ → List Given → List Slot
body_slots all index [] = []
body_slots all index (g ∷ rest) =
    if gives_body g
    then body_slot all index g ∷ body_slots all (index + 1) rest
    else body_slots all (index + 1) rest

-- those of all files
abbrev pub all_slots : List Given → List Slot
all_slots all = shipped_slots 0 all ++ body_slots all 0 all
