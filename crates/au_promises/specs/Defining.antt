-- Where the definitions of a body stand among its declarations.
use Rattle.std.specs.Prelude.{◌≡◌, ℕ, min, Bool, List, [], Option, None, Some, find, position}
use Rattle.au_syntax.specs.Modules.{Constrained, instance_body}
use Rattle.au_syntax.specs.Names.{Placed}
use Rattle.au_syntax.specs.Plain.{Bytes, PlainDeclaration}
use Rattle.au_syntax.specs.Types.{WrittenType}
use Rattle.au_types.specs.Tables as tables
use Rattle.au_types.specs.Tables.{with_pair}
use Rattle.au_types.specs.declared.parameters.Parameter.{Parameter}
use Rattle.au_types.specs.Types.{Meaning}
use Rattle.au_types.specs.Meant.{meant}
use Rattle.au_promises.specs.declared.definitions.ByName.{ByName}
use Rattle.au_promises.specs.declared.definitions.Definitions.{Definitions}
use Rattle.au_promises.specs.declared.definitions.Sort.{Sort}
use Rattle.au_promises.specs.declared.definitions.Sort.TheVariants.{Constants, Types, Functions}
use Rattle.au_promises.specs.declared.keys.KeySort.{KeySort}
use Rattle.au_promises.specs.declared.keys.KeySort.TheVariants.{Worded, Meaningless}
use Rattle.au_promises.specs.Agreeing.{scope_of, Sight}
use Rattle.au_promises.specs.Keys.{class_key, instance_key}
use Rattle.au_promises.specs.Promises.{constant_defined, type_defined, function_defined, instance_defined}
use Rattle.au_promises.specs.Promises.{is_name}

-- the name that a declaration defines of a sort, if it defines one
abbrev pub name_defined : Sort → PlainDeclaration → Option Bytes
name_defined Constants d = constant_defined d
name_defined Types d = type_defined d
name_defined Functions d = function_defined d

-- a declaration has this key
abbrev pub has_key : (PlainDeclaration → Option Bytes) → Bytes → PlainDeclaration → Bool
has_key key_of key d = is_name key (key_of d)

-- a declaration defines this name of a sort
abbrev pub is_defined : Sort → Bytes → PlainDeclaration → Bool
is_defined sort name d = has_key (name_defined sort) name d

-- a key, where nothing is meant
abbrev pub nothing_key : Option Meaning → Bytes → Option Bytes
nothing_key None key = Some key
nothing_key (Some t) key = None

-- the key of the class of an instance of a body, given its type parameters, where its type means nothing
abbrev pub meaningless_key : Sight → List Parameter → Placed Bytes → WrittenType → Option Bytes
meaningless_key sight scope name t =
    nothing_key (meant [] scope sight.body sight.rows t) (class_key sight.body name)

-- the key of an instance of a body: by its class and its written type, or by its class alone where its type
-- means nothing
abbrev pub body_key : KeySort → Sight → List (Constrained Bytes) → Placed Bytes → WrittenType → Option Bytes
body_key Worded sight generics name t = Some (instance_key (scope_of generics) sight.body sight.rows name t)
body_key Meaningless sight generics name t = meaningless_key sight (scope_of generics) name t

-- the key of a sort of the instance that a declaration of a body defines, if it has one
abbrev pub key_defined : KeySort → Sight → PlainDeclaration → Option Bytes
key_defined sort sight (instance_body at generics name t methods) = body_key sort sight generics name t
key_defined sort sight d = None

-- a table with one more name, if there is one
abbrev pub with_name : List (Bytes × ℕ) → Option Bytes → ℕ → List (Bytes × ℕ)
with_name table None index = table
with_name table (Some name) index = with_pair table name index

-- the first declaration of a body that defines an instance of this class for this written type
abbrev pub instance_among : Sight → List (Constrained Bytes) → Placed Bytes → WrittenType
    → List PlainDeclaration → Option PlainDeclaration
instance_among sight generics name t all = find (instance_defined sight (scope_of generics) name t) all

-- By each key a table finds where the first of some declarations stands that has it.
abbrev pub AreFirst : (PlainDeclaration → Option Bytes) → List PlainDeclaration → List (Bytes × ℕ) → Type 0
AreFirst key_of all table = (key : Bytes) → tables.find key table ≡ position (has_key key_of key) all

-- the earlier of two places, if there are any
abbrev pub earlier : Option ℕ → Option ℕ → Option ℕ
earlier None other = other
earlier (Some place) None = Some place
earlier (Some place) (Some other) = Some (min place other)

-- the table of a sort
abbrev pub table_of : Sort → ByName → List (Bytes × ℕ)
table_of Constants names = names.constants
table_of Types names = names.types
table_of Functions names = names.functions

-- These are the first definitions of a body by their names, sort by sort.
pub record AreNamed (all : List PlainDeclaration) (names : ByName) : Type 0 where
  pub constants : AreFirst (name_defined Constants) all names.constants
  pub types : AreFirst (name_defined Types) all names.types
  pub functions : AreFirst (name_defined Functions) all names.functions

-- These are the definitions of a body: the first by its name, the first instance by its class and written
-- type, and the first of each class whose type means nothing.
pub record AreDefinitions (sight : Sight) (all : List PlainDeclaration)
    (definitions : Definitions) : Type 0 where
  pub names : AreNamed all definitions.names
  pub worded : AreFirst (key_defined Worded sight) all definitions.worded
  pub meaningless : AreFirst (key_defined Meaningless sight) all definitions.meaningless
