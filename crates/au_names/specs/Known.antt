-- What is known of the modules of a program.
use Rattle.std.specs.Prelude.{◌≡◌, ℕ, Bool, true, false, List, slice_get}
use Rattle.std.specs.Option.{option_map}
use Rattle.au_syntax.specs.declared.modules.Part.{Part}
use Rattle.au_syntax.specs.declared.modules.Part.TheVariants.{Interface, Body}
use Rattle.au_types.specs.declared.spaces.Space.TheVariants.{Values, Callables, Types}
use Rattle.au_types.specs.declared.types.DeclAt.{DeclAt}
use Rattle.au_types.specs.declared.headings.Head.{Head}
use Rattle.au_modules.specs.Programs.{ModuleParts}
use Rattle.au_names.specs.Defining.{AreDefinitions}
use Rattle.au_names.specs.HeadsOf.{heads_of}
use Rattle.au_names.specs.Meanings.{declared_by, seen}
use Rattle.au_names.specs.declared.definitions.Definitions.{Definitions}
use Rattle.au_names.specs.declared.part_names.PartNames.{PartNames}
use Rattle.au_names.specs.declared.module_names.ModuleNames.{ModuleNames}

-- the body, or else the interface
abbrev pub part_if : Bool → Part
part_if true = Body
part_if false = Interface

-- what names mean in a part of the module at a place, by spaces
abbrev pub seen_by : List ModuleParts → ℕ → Part → ModuleParts → PartNames
seen_by program place part m = record {
  values = declared_by (seen Values program place m part);
  callables = seen Callables program place m part;
  types = declared_by (seen Types program place m part);
}

-- what names mean in the two parts of the module at a place
abbrev pub names_of : List ModuleParts → ℕ → ModuleParts → ModuleNames
names_of program place m = record {
  interface = seen_by program place Interface m;
  body = seen_by program place Body m;
}

-- what they mean in one of them
abbrev pub in_part : Part → ModuleNames → PartNames
in_part Interface names = names.interface
in_part Body names = names.body

-- These are the names of the modules of a program: at each place what names mean in the module there.
abbrev pub AreNames : List ModuleParts → List ModuleNames → Type 0
AreNames program all =
    (place : ℕ) → slice_get all place ≡ option_map (names_of program place) (slice_get program place)

-- All of a program is known: what names mean in each part of each module, the rows of its declared types,
-- and what defines them.
pub record IsResolved (program : List ModuleParts) (all : List ModuleNames)
    (heads : List (DeclAt × Head)) (definitions : Definitions) : Type 0 where
  pub names : AreNames program all
  pub rows : heads ≡ heads_of program
  pub defined : AreDefinitions definitions program
