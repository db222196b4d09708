-- What is made before the names of a program are looked at, so that each is found by a table.
use Rattle.std.specs.Prelude.{◌≡◌, ℕ, List, map, reverse}
use Rattle.au_syntax.specs.declared.modules.Part.{Part}
use Rattle.au_syntax.specs.Plain.{Bytes, PlainDeclaration}
use Rattle.au_types.specs.declared.name_tables.NameTables.{NameTables}
use Rattle.au_types.specs.declared.spaces.Space.{Space}
use Rattle.au_types.specs.declared.spaces.Space.TheVariants.{Values, Callables, Types}
use Rattle.au_types.specs.DeclaredNames.{numbered, table_of}
use Rattle.au_types.specs.Tables.{firsts}
use Rattle.au_modules.specs.declared.modules.Modules.{Modules}
use Rattle.au_modules.specs.Programs.{ModuleParts}
use Rattle.au_modules.specs.Slots as slots
use Rattle.au_names.specs.declared.targets.Target.{Target}
use Rattle.au_names.specs.Exporting.{AreExports}
use Rattle.au_names.specs.Owned.{declarations_in}
use Rattle.au_imports.specs.Written.{IsAt}
use Rattle.au_imports.specs.declared.brought.Brought.{Brought}
use Rattle.au_imports.specs.declared.offers.Offers.{Offers}
use Rattle.au_imports.specs.Clashing.{brought_to}

-- the tables of the names of declarations that are numbered from 0, with the number of the last declaration
-- of each
abbrev pub last_tables : List PlainDeclaration → NameTables
last_tables ds = record {
  values = table_of Values (reverse (numbered 0 ds));
  callables = table_of Callables (reverse (numbered 0 ds));
  types = table_of Types (reverse (numbered 0 ds));
}

-- the tables of the names that an interface offers, with the number of the last declaration of each
abbrev pub last_offers : ModuleParts → NameTables
last_offers m = last_tables (declarations_in m.interface)

-- These are the offers of a program's interfaces, by their places.
pub record AreOffers (program : List ModuleParts) (offers : Offers) : Type 0 where
  pub exports : AreExports offers.exports program
  pub lasts : offers.lasts.items ≡ map last_offers program

-- the table of a space of what imports bring
abbrev pub brought_in : Space → Brought → List (Bytes × Target)
brought_in Values brought = brought.values
brought_in Callables brought = brought.callables
brought_in Types brought = brought.types

-- These are the tables of what the imports of a part of the module at a place bring, the first that
-- each name is given.
pub record AreBrought (program : List ModuleParts) (place : ℕ) (m : ModuleParts)
    (part : Part) (brought : Brought) : Type 0 where
  pub values : brought.values ≡ firsts (brought_to program place m part Values)
  pub callables : brought.callables ≡ firsts (brought_to program place m part Callables)
  pub types : brought.types ≡ firsts (brought_to program place m part Types)

-- These are the tables of what the imports of a part of the module at a place bring.
abbrev pub AreBroughtTo : Modules → ℕ → Part → Brought → Type 0
AreBroughtTo modules place part brought =
    (m : ModuleParts) → IsAt modules place m → AreBrought (slots.modules modules) place m part brought
