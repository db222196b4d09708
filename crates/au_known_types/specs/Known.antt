-- Types that are known at a place of a function: well formed, and each name in them is that of a type
-- parameter or of a region in scope there. So a running type stands for each of them in whatever frame the
-- function runs.
use Rattle.std.specs.Prelude.{◌≡◌, ℕ, true, List, [], ◌∷◌, Some, None}
use Rattle.au_syntax.specs.Plain.{Bytes}
use Rattle.au_types.specs.declared.headings.Head.{Head}
use Rattle.au_types.specs.declared.parameters.Parameter.{Parameter}
use Rattle.au_types.specs.declared.types.DeclAt.{DeclAt}
use Rattle.au_types.specs.Types.{Meaning, Argument, of_type, in_region}
use Rattle.au_matching.specs.Bindings.{Bindings, value_of}
use Rattle.au_matching.specs.Forming.{IsWellFormed}
use Rattle.au_matching.specs.Substituted.{EachName, OfRegion}
use Rattle.au_judged_types.specs.Bounds.{parameters}
use Rattle.au_running_types.specs.Running.{is_lasting}
use Rattle.au_written_types.specs.Written.{IsRegionName, IsTypeName, IsWritten}
use Rattle.au_typing.specs.Lookups.{parameters_in, variable_of}
use Rattle.au_typing.specs.Notes.{Mode}
use Rattle.au_typing.specs.Scopes.{Callable, Outside, Scope, Typed, Variable}

-- ---- types

module _ (heads : List (DeclAt × Head)) (params : List Parameter) (regions : List Bytes) where
  -- a type
  abbrev pub IsKnown : Meaning → Type 0
  IsKnown t = IsWellFormed heads params t × EachName (IsTypeName params) (IsRegionName regions params) t

  -- what a name may stand for: such a type, or a region in scope
  abbrev pub IsKnownArgument : Argument → Type 0
  IsKnownArgument (of_type t) = IsKnown t
  IsKnownArgument (in_region region) = OfRegion (IsRegionName regions params) region

  abbrev pub ValuesAreKnown : Bindings → Type 0
  ValuesAreKnown s = (name : List ℕ) (value : Argument) → value_of name s ≡ Some value → IsKnownArgument value

  -- the type that is wanted of an expression, if one is
  abbrev pub ModeIsKnown : Mode → Type 0
  ModeIsKnown None = Unit {0}
  ModeIsKnown (Some t) = IsKnown t

  -- the types of fields
  abbrev pub EachIsKnown : List Typed → Type 0
  EachIsKnown [] = Unit {0}
  EachIsKnown (one ∷ rest) = IsKnown one.of × EachIsKnown rest

-- ---- declarations

module _ (heads : List (DeclAt × Head)) (params : List Parameter) where
  -- a type that a declaration writes over its type parameters
  abbrev pub IsDeclared : Meaning → Type 0
  IsDeclared t = IsWellFormed heads params t × IsWritten [] params t

  abbrev pub EachIsDeclared : List Typed → Type 0
  EachIsDeclared [] = Unit {0}
  EachIsDeclared (one ∷ rest) = IsDeclared one.of × EachIsDeclared rest

-- What is seen outside of functions is known: constants, what is called, over its own type parameters, and
-- the fields of a type that is known.
pub record OutsideIsKnown (outside : Outside) : Type 0 where
  pub constants : (name : Bytes) (t : Meaning) → outside.constant name ≡ Some t
      → IsDeclared outside.heads [] t
  pub takes : (name : Bytes) (c : Callable) → outside.callable name ≡ Some c
      → EachIsDeclared outside.heads (parameters c.generics) c.parameters
  pub gives : (name : Bytes) (c : Callable) → outside.callable name ≡ Some c
      → IsDeclared outside.heads (parameters c.generics) c.result
  pub fields : (params : List Parameter) (regions : List Bytes) (t : Meaning) (fields : List Typed)
      → outside.fields t ≡ Some fields → IsKnown outside.heads params regions t
      → EachIsKnown outside.heads params regions fields

-- ---- scopes

-- a type is known in a scope
abbrev pub IsKnownIn : Scope → Meaning → Type 0
IsKnownIn sc t = IsKnown sc.outside.heads (parameters_in sc) sc.regions t

abbrev pub ModeIsKnownIn : Scope → Mode → Type 0
ModeIsKnownIn sc mode = ModeIsKnown sc.outside.heads (parameters_in sc) sc.regions mode

-- What is in scope is known, and `~` stands in no type of it.
pub record ScopeIsKnown (sc : Scope) : Type 0 where
  pub outside : OutsideIsKnown sc.outside
  pub variables : (name : Bytes) (v : Variable) → variable_of sc name ≡ Some v → IsKnownIn sc v.of
  pub lasting : (name : Bytes) (v : Variable) → variable_of sc name ≡ Some v → is_lasting v.of ≡ true
  pub result : IsKnownIn sc sc.result × (is_lasting sc.result ≡ true)
