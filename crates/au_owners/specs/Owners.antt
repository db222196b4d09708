-- Which types are opaque, whose they are, and what makes them up.
use Rattle.std.specs.Prelude.{◌≡◌, ℕ, List, Option, None, Some, slice_get}
use Rattle.std.specs.Option.{option_map}
use Rattle.au_syntax.specs.declared.modules.Part.{Part}
use Rattle.au_syntax.specs.Plain.{Bytes}
use Rattle.au_types.specs.declared.spaces.Space.TheVariants.{Callables}
use Rattle.au_types.specs.declared.types.DeclAt.{DeclAt}
use Rattle.au_types.specs.Tables.{find}
use Rattle.au_type_texts.specs.Types.{ClosedType, named}
use Rattle.au_effects.specs.Worlds.{Deed}
use Rattle.au_events.specs.Events.{OwnMade}
use Rattle.au_modules.specs.Programs.{ModuleParts}
use Rattle.au_names.specs.Meanings.{seen}
use Rattle.au_names.specs.Standing.{Standing, definition_of, opaque_name, standing_at}
use Rattle.au_names.specs.declared.targets.Target.{Target}

-- the name of the module at a place, if it is there
abbrev pub module_name : List ModuleParts → ℕ → Option Bytes
module_name program place = option_map (λ (m : ModuleParts). m.name) (slice_get program place)

-- the module that a declaration is of, if it is that of an opaque type
abbrev pub owner_by : List ModuleParts → Standing → Option Bytes → Option Bytes
owner_by program d None = None
owner_by program d (Some name) = module_name program d.place

abbrev pub owner_declared : List ModuleParts → Option Standing → Option Bytes
owner_declared program None = None
owner_declared program (Some d) = owner_by program d (opaque_name d.says)

-- The owner of a closed type: an opaque type has the module that declares it, and no other type has one.
abbrev pub owner_of : List ModuleParts → ClosedType → Option Bytes
owner_of program (named at args) = owner_declared program (standing_at program at)
owner_of program other = None

-- what is born of an opaque type is born in the text of its own module
abbrev pub AreOwnMade : List ModuleParts → List (Deed ClosedType) → Type 0
AreOwnMade program events = OwnMade (owner_of program) events

-- A declaration defines an opaque type that stands elsewhere in its module: what it brings in are the
-- constructors and cases of that type.
pub record DefinesOpaque (program : List ModuleParts) (d : Standing) : Type 0 where
  pub at : DeclAt
  pub opaque : Standing
  pub name : Bytes
  pub stands : standing_at program at ≡ Some opaque
  pub is : opaque_name opaque.says ≡ Some name
  pub defines : definition_of program at ≡ Some d

-- In no part of another module does a name mean the constructor of an opaque type, or a case of it.
abbrev pub OpaquePartsAreOwn : Type 0
OpaquePartsAreOwn =
    (program : List ModuleParts) (place : ℕ) (m : ModuleParts) (part : Part) (name : Bytes) (target : Target)
    (d : Standing)
    → slice_get program place ≡ Some m
    → find name (seen Callables program place m part) ≡ Some target
    → standing_at program target.at ≡ Some d
    → DefinesOpaque program d
    → place ≡ d.place
