-- A part of a module whose imports are looked at, with what is known of its program.
use Rattle.std.specs.Prelude.{◌≡◌, ◌<◌, ℕ, ◌&&◌, ◌||◌, Bool, true, List, Option, None, Some, length}
use Rattle.std.specs.Prelude.{slice_get}
use Rattle.std.specs.List.{list_all}
use Rattle.au_base.specs.declared.places.Pos.{Pos}
use Rattle.au_syntax.specs.Forms.{some}
use Rattle.au_syntax.specs.Modules.{Importing}
use Rattle.au_syntax.specs.Names.{Placed, Renaming}
use Rattle.au_syntax.specs.Plain.{Bytes}
use Rattle.au_syntax.specs.Sizes.{fits_name}
use Rattle.au_types.specs.declared.spaces.Space.{Space}
use Rattle.au_types.specs.declared.spaces.Space.TheVariants.{Values, Callables, Types}
use Rattle.au_types.specs.declared.types.DeclAt.{DeclAt}
use Rattle.au_modules.specs.Programs.{ModuleParts}
use Rattle.au_modules.specs.Slots as slots
use Rattle.au_names.specs.declared.targets.Target.{Target}
use Rattle.au_names.specs.Along.{is_among, members_in}
use Rattle.au_imports.specs.declared.clashes.Importer.{Importer}
use Rattle.au_imports.specs.declared.name_faults.NameFault.{NameFault}
use Rattle.au_imports.specs.Choices.{first_of}
use Rattle.au_imports.specs.Clashing.{brought_to, import_clashes, is_declared_before, pervasive_target}
use Rattle.au_imports.specs.Gathered.{AreBrought, AreOffers}
use Rattle.au_imports.specs.NameFaults.{found_clashes, import_fault, is_hidden, item_clashes, item_fault}
use Rattle.au_imports.specs.NameFaults.{member_fault}

-- These names, with dots between, name a module: there is one at least, and they are within the limit of a
-- name.
abbrev pub is_module_name : List (Placed Bytes) → Bool
is_module_name names = some names && fits_name names

-- Each import names a module so. The imports of a whole file do.
abbrev pub name_modules : List (Importing Bytes) → Bool
name_modules imports = list_all (λ (i : Importing Bytes). is_module_name i.from) imports

-- the modules of the program
abbrev pub program_of : Importer → List ModuleParts
program_of one = slots.modules one.modules.now

-- This is the module of the part.
abbrev pub IsOf : Importer → ModuleParts → Type 0
IsOf one m = slice_get (program_of one) one.place ≡ Some m

-- What is known of the program is so.
pub record IsReady (one : Importer) : Type 0 where
  pub within : one.place < length (program_of one)
  pub offers : AreOffers (program_of one) one.offers.now
  pub brought : (m : ModuleParts) → IsOf one m
      → AreBrought (program_of one) one.place m one.part one.brought.now

-- This is the module at another place.
abbrev pub IsFrom : Importer → ℕ → ModuleParts → Type 0
IsFrom one from other = slice_get (program_of one) from ≡ Some other

-- whether what the imports of the part bring under a name clashes
abbrev pub clashes_in : Importer → ModuleParts → Space → Bytes → Target → Bool
clashes_in one m = import_clashes (program_of one) one.place m one.part

-- whether an item of an import of the module at another place clashes in some space
abbrev pub any_clashes : Importer → ModuleParts → ℕ → ModuleParts → Renaming Bytes → Bool
any_clashes one m from other item =
    item_clashes (program_of one) one.place m one.part from other item Values
    || item_clashes (program_of one) one.place m one.part from other item Callables
    || item_clashes (program_of one) one.place m one.part from other item Types

-- what the imports of the part bring into a space
abbrev pub brought_by : Importer → ModuleParts → Space → List (Bytes × Target)
brought_by one m = brought_to (program_of one) one.place m one.part

-- whether the interface declares a name before the part
abbrev pub is_declared_in : Importer → ModuleParts → Space → Bytes → Bool
is_declared_in one m = is_declared_before (program_of one) one.place m one.part

-- what is pervasive under a name
abbrev pub pervasive_in : Importer → Space → Bytes → Option Target
pervasive_in one space name = pervasive_target space (slice_get (program_of one) 0) name

-- whether an item of an import of the module at another place clashes in a space
abbrev pub clashes_by : Importer → ModuleParts → ℕ → ModuleParts → Renaming Bytes → Space → Bool
clashes_by one m = item_clashes (program_of one) one.place m one.part

-- whether what is found there under a name clashes
abbrev pub clashes_where : Importer → ModuleParts → ℕ → ModuleParts → Space → Bytes → Bytes → Option ℕ → Bool
clashes_where one m = found_clashes (program_of one) one.place m one.part

-- whether no space there has a name
abbrev pub is_hidden_in : Importer → ModuleParts → ℕ → ModuleParts → Bytes → Bool
is_hidden_in one m = is_hidden (program_of one) one.place m one.part

-- what is refused of an item of an import of the module at another place
abbrev pub item_fault_in : Importer → ModuleParts → ℕ → ModuleParts → Renaming Bytes → Option NameFault
item_fault_in one m = item_fault (program_of one) one.place m one.part

-- what is refused of an import
abbrev pub import_fault_in : Importer → ModuleParts → Importing Bytes → Option NameFault
import_fault_in one m = import_fault (program_of one) one.place m one.part

-- what is refused of a case or a method that comes along from the module at another place
abbrev pub fault_in : Importer → ModuleParts → ℕ → ModuleParts → Pos → Bytes × Target → Option NameFault
fault_in one m from other = member_fault (program_of one) one.place m one.part from other

-- The cases or methods of each of these declarations are refused for nothing where they come along, wherever
-- they stand.
abbrev pub AllPass : Importer → List DeclAt → Type 0
AllPass one some =
    (at : DeclAt) (m other : ModuleParts) (stands : Pos) → is_among at some ≡ true → IsOf one m
    → slice_get (program_of one) at.«module» ≡ Some other
    → first_of (fault_in one m at.«module» other stands) (members_in at other) ≡ None
