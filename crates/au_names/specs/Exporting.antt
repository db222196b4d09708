-- How what an interface offers is found by its name, without a walk through its declarations.
use Rattle.std.specs.Prelude.{◌≡◌, ℕ, List, [], ◌∷◌, map, Option, None, Some, length, slice_get}
use Rattle.std.specs.Map.{lookup}
use Rattle.std.specs.Option.{option_map}
use Rattle.std.specs.Str.{bytes_eq}
use Rattle.au_syntax.specs.Modules.{Importing}
use Rattle.au_syntax.specs.Plain.{Bytes, PlainDeclaration, PlainModule}
use Rattle.au_types.specs.declared.name_tables.NameTables.{NameTables}
use Rattle.au_types.specs.declared.spaces.Space.{Space}
use Rattle.au_types.specs.declared.spaces.Space.TheVariants.{Values, Callables, Types}
use Rattle.au_types.specs.DeclaredNames.{numbered, table_of}
use Rattle.au_modules.specs.Programs.{ModuleParts}
use Rattle.au_names.specs.declared.targets.Target.{Target}
use Rattle.au_names.specs.Owned.{declarations_in, target}
use Rattle.au_names.specs.declared.exports.Exports.{Exports}
use Rattle.au_names.specs.Importing.{members_of, place_of}

-- the table of a space
abbrev pub in_space : Space → NameTables → List (Bytes × ℕ)
in_space Values names = names.values
in_space Callables names = names.callables
in_space Types names = names.types

-- the tables of the names of declarations that are numbered from here on
abbrev pub tables_from : ℕ → List PlainDeclaration → NameTables
tables_from first ds = record {
  values = table_of Values (numbered first ds);
  callables = table_of Callables (numbered first ds);
  types = table_of Types (numbered first ds);
}

-- the tables of the names that an interface offers
abbrev pub offers : ModuleParts → NameTables
offers m = tables_from 0 (declarations_in m.interface)

-- what is found under a name in the module at a place, under a local name
abbrev pub found_as : ℕ → Bytes → Bytes → Option ℕ → List (Bytes × Target)
found_as place name local None = []
found_as place name local (Some number) = (local, target place name number) ∷ []

-- the declaration of a number
abbrev pub declaration_at : ℕ → List PlainDeclaration → Option (ℕ × PlainDeclaration)
declaration_at number ds = option_map (λ d. (number, d)) (slice_get ds number)

-- the cases or methods of the declaration of a number, in the module at a place
abbrev pub members_at : ℕ → ℕ → List PlainDeclaration → List (Bytes × Target)
members_at place number ds = members_of place (declaration_at number ds)

-- the declarations of a file that is seen, if there is one
abbrev pub declarations_seen : Option PlainModule → List PlainDeclaration
declarations_seen None = []
declarations_seen (Some tree) = tree.declarations

-- the imports of a file that is seen, if there is one
abbrev pub imports_seen : Option PlainModule → List (Importing Bytes)
imports_seen None = []
imports_seen (Some tree) = tree.imports

-- the tables of the names that a body brings in
abbrev pub body_names : ModuleParts → NameTables
body_names m = tables_from (length (declarations_in m.interface)) (declarations_in m.body)

-- What is made for the modules of a program: their places by their names, and what each interface offers.
pub record AreExports (exports : Exports) (program : List ModuleParts) : Type 0 where
  pub places : (name : Bytes) → lookup (bytes_eq name) exports.places ≡ place_of program name
  pub interfaces : exports.interfaces.items ≡ map offers program
