-- Which names the declarations of a file bring in, by spaces of names. Constants are values. Functions,
-- methods of classes, records and cases of unions are callables. Opaque types, records, unions and
-- classes are types. An instance brings in no name: its methods are those of its class.
use Rattle.std.specs.Prelude.{ℕ, ◌+◌, List, [], ◌∷◌, ◌++◌, map}
use Rattle.au_syntax.specs.Modules.{constant, opaque_type, record_type, union_type, function, class, instance}
use Rattle.au_syntax.specs.Modules.{constant_body, function_body, instance_body}
use Rattle.au_syntax.specs.Plain.{Bytes, PlainDeclaration, plain_declaration, plain_header, plain_variant}
use Rattle.au_syntax.specs.Views.{declaration, header, variant}
use Rattle.au_syntax.specs.declared.declarations.Decl.{Decl}
use Rattle.au_syntax.specs.declared.declarations.Signature.{Signature}
use Rattle.au_syntax.specs.declared.declarations.UnionCase.{UnionCase}
use Rattle.au_syntax.specs.declared.phases.Phase.{Ghosts}
use Rattle.au_types.specs.declared.spaces.Space.{Space}
use Rattle.au_types.specs.declared.spaces.Space.TheVariants.{Values, Callables, Types}
use Rattle.au_types.specs.Tables.{firsts}

-- the values that a declaration brings in
abbrev pub value_names : PlainDeclaration → List Bytes
value_names (constant at name t) = name.name ∷ []
value_names (opaque_type at name parameters universe) = []
value_names (record_type at name parameters universe fields) = []
value_names (union_type at name parameters universe cases) = []
value_names (function at generics header) = []
value_names (class at name parameter methods) = []
value_names (instance at generics name t) = []
value_names (constant_body at name t e) = name.name ∷ []
value_names (function_body at generics header body stop) = []
value_names (instance_body at generics name t methods) = []

-- the callables that a declaration brings in: a case belongs to its union and a method to its class
abbrev pub callable_names : PlainDeclaration → List Bytes
callable_names (constant at name t) = []
callable_names (opaque_type at name parameters universe) = []
callable_names (record_type at name parameters universe fields) = name.name ∷ []
callable_names (union_type at name parameters universe cases) = map (λ c. c.name.name) cases
callable_names (function at generics header) = header.name.name ∷ []
callable_names (class at name parameter methods) = map (λ h. h.name.name) methods
callable_names (instance at generics name t) = []
callable_names (constant_body at name t e) = []
callable_names (function_body at generics header body stop) = header.name.name ∷ []
callable_names (instance_body at generics name t methods) = []

-- the types that a declaration brings in
abbrev pub type_names : PlainDeclaration → List Bytes
type_names (constant at name t) = []
type_names (opaque_type at name parameters universe) = name.name ∷ []
type_names (record_type at name parameters universe fields) = name.name ∷ []
type_names (union_type at name parameters universe cases) = name.name ∷ []
type_names (function at generics header) = []
type_names (class at name parameter methods) = name.name ∷ []
type_names (instance at generics name t) = []
type_names (constant_body at name t e) = []
type_names (function_body at generics header body stop) = []
type_names (instance_body at generics name t methods) = []

-- the names of a space that a declaration brings in
abbrev pub declared_names : Space → PlainDeclaration → List Bytes
declared_names Values d = value_names d
declared_names Callables d = callable_names d
declared_names Types d = type_names d

-- declarations in order, each with its number, counted on from the first one's. Those of a body are
-- counted on from those of its interface.
unfoldable pub numbered : ℕ → List PlainDeclaration → List (ℕ × PlainDeclaration)
numbered first [] = []
numbered first (d ∷ ds) = (first, d) ∷ numbered (first + 1) ds

-- names, each with one number
abbrev pub given : ℕ → List Bytes → List (Bytes × ℕ)
given number names = map (λ name. (name, number)) names

-- the names of a space that declarations bring in, each with the number of the declaration that it is
-- or belongs to
unfoldable pub names_in : Space → List (ℕ × PlainDeclaration) → List (Bytes × ℕ)
names_in space [] = []
names_in space (d ∷ ds) = given d.0 (declared_names space d.1) ++ names_in space ds

-- the table of a space: the first of each name
abbrev pub table_of : Space → List (ℕ × PlainDeclaration) → List (Bytes × ℕ)
table_of space file = firsts (names_in space file)

module _ {X N T C : Type 0} (g : Ghosts X N T C) where
  -- what is written in a declaration of the code
  abbrev pub declaration_said : Decl X N T C → PlainDeclaration
  declaration_said d = plain_declaration g.name_bytes (declaration g d)

  -- the names of a union's cases
  abbrev pub case_names : List (UnionCase X N T C) → List Bytes
  case_names cases = map (λ c. c.name.name) (map (plain_variant g.name_bytes) (map (variant g) cases))

  -- the names of a class's methods
  abbrev pub method_names : List (Signature X N T C) → List Bytes
  method_names methods = map (λ h. h.name.name) (map (plain_header g.name_bytes) (map (header g) methods))
