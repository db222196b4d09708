-- The declarations of a program in the order of the text, and what is visible where they stand.
use Rattle.std.specs.Prelude.{ℕ, ◌+◌, List, [], ◌∷◌, ◌++◌, length, Option, None, Some, slice_get}
use Rattle.au_syntax.specs.declared.modules.Part.{Part}
use Rattle.au_syntax.specs.declared.modules.Part.TheVariants.{Interface, Body}
use Rattle.au_syntax.specs.Plain.{Bytes, PlainDeclaration}
use Rattle.au_types.specs.declared.spaces.Space.TheVariants.{Types}
use Rattle.au_types.specs.declared.types.DeclAt.{DeclAt}
use Rattle.au_modules.specs.Programs.{ModuleParts}
use Rattle.au_names.specs.Meanings.{declared_by, seen}
use Rattle.au_names.specs.Owned.{declarations_in}

-- a declaration of a program: its module and number, the part that it stands in, and what it says
pub record Spot : Type 0 where
  pub at : DeclAt
  pub part : Part
  pub says : PlainDeclaration

-- the declarations of a part of the module at a place, the first of which has this number
unfoldable pub spots_from : ℕ → Part → ℕ → List PlainDeclaration → List Spot
spots_from place part number [] = []
spots_from place part number (d ∷ ds) =
    record { at = record { «module» = place; decl = number }; part = part; says = d }
    ∷ spots_from place part (number + 1) ds

-- those of the module at a place: those of its interface, and then those of its body
abbrev pub module_spots : ℕ → ModuleParts → List Spot
module_spots place m =
    spots_from place Interface 0 (declarations_in m.interface)
    ++ spots_from place Body (length (declarations_in m.interface)) (declarations_in m.body)

-- those of modules, the first of which has this place
unfoldable pub text_from : ℕ → List ModuleParts → List Spot
text_from place [] = []
text_from place (m ∷ ms) = module_spots place m ++ text_from (place + 1) ms

-- those of a program: modules by their places
abbrev pub text : List ModuleParts → List Spot
text program = text_from 0 program

-- the names of types and classes that are visible in a part of the module at a place, if it is there
abbrev pub visible_in : List ModuleParts → ℕ → Part → Option ModuleParts → List (Bytes × DeclAt)
visible_in program place part None = []
visible_in program place part (Some m) = declared_by (seen Types program place m part)

-- those that are visible where a declaration stands
abbrev pub visible_at : List ModuleParts → Spot → List (Bytes × DeclAt)
visible_at program s = visible_in program s.at.«module» s.part (slice_get program s.at.«module»)
