-- What parts of the trees of the code say.
use Rattle.std.specs.Prelude.{◌≡◌, ℕ, List, map, Some, slice_get}
use Rattle.au_syntax.specs.contracts.parsed.ParsedPhase.TheImpl.{ghosts as parsed}
use Rattle.au_syntax.specs.declared.declarations.Decl.{Decl}
use Rattle.au_syntax.specs.declared.declarations.Signature.{Signature}
use Rattle.au_syntax.specs.declared.declarations.UnionCase.{UnionCase}
use Rattle.au_syntax.specs.declared.modules.Import.{Import}
use Rattle.au_syntax.specs.declared.names.Renamed.{Renamed}
use Rattle.au_syntax.specs.declared.names.Ident.{Ident}
use Rattle.au_syntax.specs.declared.parsed.Parsed.{Parsed}
use Rattle.au_syntax.specs.Modules.{Importing}
use Rattle.au_syntax.specs.Names.{Placed, Renaming}
use Rattle.au_syntax.specs.Plain.{Bytes, PlainDeclaration, plain_declaration, plain_header, plain_importing}
use Rattle.au_syntax.specs.Plain.{plain_name, plain_renaming, plain_variant}
use Rattle.au_syntax.specs.Views.{declaration, header, importing, placed, renaming, variant}
use Rattle.au_modules.specs.declared.modules.Modules.{Modules}
use Rattle.au_modules.specs.Programs.{ModuleParts}
use Rattle.au_modules.specs.Slots as slots

-- the names of a module's name
abbrev pub names_of : List (Ident Parsed (List ℕ) (Unit {0}) (Unit {0})) → List (Placed Bytes)
names_of all = map (plain_name parsed.name_bytes) (map (placed parsed) all)

-- an item of an import
abbrev pub item_of : Renamed Parsed (List ℕ) (Unit {0}) (Unit {0}) → Renaming Bytes
item_of one = plain_renaming parsed.name_bytes (renaming parsed one)

-- items
abbrev pub items_of : List (Renamed Parsed (List ℕ) (Unit {0}) (Unit {0})) → List (Renaming Bytes)
items_of all = map (plain_renaming parsed.name_bytes) (map (renaming parsed) all)

-- an import
abbrev pub import_of : Import Parsed (List ℕ) (Unit {0}) (Unit {0}) → Importing Bytes
import_of one = plain_importing parsed.name_bytes (importing parsed one)

-- imports
abbrev pub imports_of : List (Import Parsed (List ℕ) (Unit {0}) (Unit {0})) → List (Importing Bytes)
imports_of all = map (plain_importing parsed.name_bytes) (map (importing parsed) all)

-- a declaration
abbrev pub declared_of : Decl Parsed (List ℕ) (Unit {0}) (Unit {0}) → PlainDeclaration
declared_of one = plain_declaration parsed.name_bytes (declaration parsed one)

-- declarations
abbrev pub all_declared : List (Decl Parsed (List ℕ) (Unit {0}) (Unit {0})) → List PlainDeclaration
all_declared all = map (plain_declaration parsed.name_bytes) (map (declaration parsed) all)

-- the names of a union's cases
abbrev pub cases_of : List (UnionCase Parsed (List ℕ) (Unit {0}) (Unit {0})) → List Bytes
cases_of all = map (λ c. c.name.name) (map (plain_variant parsed.name_bytes) (map (variant parsed) all))

-- the names of a class's methods
abbrev pub methods_of : List (Signature Parsed (List ℕ) (Unit {0}) (Unit {0})) → List Bytes
methods_of all = map (λ h. h.name.name) (map (plain_header parsed.name_bytes) (map (header parsed) all))

-- This is the module at a place.
abbrev pub IsAt : Modules → ℕ → ModuleParts → Type 0
IsAt modules place m = slice_get (slots.modules modules) place ≡ Some m
