-- The methods of the classes of a program, and how they are found by their names without a walk.
use Rattle.std.specs.Prelude.{◌≡◌, ℕ, ◌+◌, List, [], ◌∷◌, ◌++◌, map, find, Bool, Option, None, Some, Vec}
use Rattle.std.specs.Borrow.{Bor}
use Rattle.std.specs.Global.{Global}
use Rattle.std.specs.Option.{option_map}
use Rattle.std.specs.Str.{bytes_eq}
use Rattle.au_syntax.specs.contracts.parsed.ParsedPhase.TheImpl.{ghosts as parsed}
use Rattle.au_syntax.specs.declared.declarations.Signature.{Signature}
use Rattle.au_syntax.specs.declared.parsed.Parsed.{Parsed}
use Rattle.au_syntax.specs.Modules.{Header, class}
use Rattle.au_syntax.specs.Plain.{Bytes, PlainDeclaration, plain_header}
use Rattle.au_syntax.specs.Views.{header}
use Rattle.au_types.specs.declared.types.DeclAt.{DeclAt}
use Rattle.au_types.specs.Tables.{with_all}
use Rattle.au_modules.specs.Programs.{ModuleParts}
use Rattle.au_names.specs.declared.methods.Methods.{Methods}
use Rattle.au_names.specs.Owned.{declarations_in}
use Rattle.au_names.specs.Standing.{Standing, standing_at}

-- ---- which method has a name

-- the methods of a declaration: those of a class
abbrev pub methods_in : PlainDeclaration → List (Header Bytes)
methods_in (class at name parameter methods) = methods
methods_in other = []

-- a method has this name
abbrev pub is_method : Bytes → Header Bytes → Bool
is_method name method = bytes_eq name method.name.name

-- the first method of a name in a declaration, if both are there
abbrev pub method_among : Bytes → Option Standing → Option (Header Bytes)
method_among name None = None
method_among name (Some d) = find (is_method name) (methods_in d.says)

-- the first method of a name in the class with this module and number
abbrev pub method_at : List ModuleParts → DeclAt → Bytes → Option (Header Bytes)
method_at program at name = method_among name (standing_at program at)

-- ---- what is made once

-- names of methods, with their indices, which count from here on
unfoldable pub methods_from : ℕ → List (Header Bytes) → List (Bytes × ℕ)
methods_from index [] = []
methods_from index (h ∷ hs) = (h.name.name, index) ∷ methods_from (index + 1) hs

-- the table of the methods of a declaration: the first one of a name counts
abbrev pub methods_of : PlainDeclaration → List (Bytes × ℕ)
methods_of d = with_all [] (methods_from 0 (methods_in d))

-- those of the declarations of a module, by their numbers
abbrev pub methods_by_number : ModuleParts → List (List (Bytes × ℕ))
methods_by_number m =
    map methods_of (declarations_in m.interface) ++ map methods_of (declarations_in m.body)

-- tables that the code holds
abbrev pub held : Vec (List (Bytes × ℕ)) Global → List (List (Bytes × ℕ))
held tables = tables.items

-- What is made for the modules of a program: the methods of each declaration.
abbrev pub AreMethods : Methods → List ModuleParts → Type 0
AreMethods methods program = map held methods.by_place.items ≡ map methods_by_number program

-- the table of the methods of a declaration that may be missing
abbrev pub methods_there : Option Standing → List (Bytes × ℕ)
methods_there None = []
methods_there (Some d) = methods_of d.says

-- the table at an index, if it is there
abbrev pub table_there : Option (List (Bytes × ℕ)) → List (Bytes × ℕ)
table_there None = []
table_there (Some table) = table

-- ---- what the code shows

-- a method of a class that is written
abbrev pub method_of : Signature Parsed (List ℕ) (Unit {0}) (Unit {0}) → Header Bytes
method_of one = plain_header parsed.name_bytes (header parsed one)

-- the methods of a class that are written
abbrev pub written_methods : List (Signature Parsed (List ℕ) (Unit {0}) (Unit {0})) → List (Header Bytes)
written_methods all = map (plain_header parsed.name_bytes) (map (header parsed) all)

-- a method behind a reference, if there is one
abbrev pub method_seen : Option (Bor (Signature Parsed (List ℕ) (Unit {0}) (Unit {0})))
    → Option (Header Bytes)
method_seen found =
    option_map (λ (b : Bor (Signature Parsed (List ℕ) (Unit {0}) (Unit {0}))). method_of b.now) found

-- the methods of a class behind a reference, if it is one
abbrev pub methods_seen : Option (Bor (Vec (Signature Parsed (List ℕ) (Unit {0}) (Unit {0})) Global))
    → List (Header Bytes)
methods_seen None = []
methods_seen (Some all) = written_methods all.now.items
