-- What a name means among types, at a place of a program: there stand regions of borrow statements that
-- are open, type parameters, and the names that are visible in that part of a module.
use Rattle.std.specs.Prelude.{List, [], ◌∷◌, Option, None, Some, codes, if◌then◌else◌}
use Rattle.std.specs.List.{list_any}
use Rattle.std.specs.Option.{option_map, option_or}
use Rattle.std.specs.Str.{bytes_eq}
use Rattle.au_base.specs.declared.kinds.IntKind.TheVariants as kinds
use Rattle.au_syntax.specs.declared.declarations.Universe.{Universe}
use Rattle.au_syntax.specs.declared.declarations.Universe.TheVariants as universes
use Rattle.au_syntax.specs.Plain.{Bytes}
use Rattle.au_types.specs.Tables.{find}
use Rattle.au_types.specs.declared.headings.Head.{Head}
use Rattle.au_types.specs.declared.parameters.Parameter.{Parameter}
use Rattle.au_types.specs.declared.types.DeclAt.{DeclAt}
use Rattle.au_types.specs.declared.types.Region.{Region}
use Rattle.au_types.specs.declared.types.Region.TheVariants as regions
use Rattle.au_types.specs.Rows.{head_of}
use Rattle.au_types.specs.Types.{Meaning, unit, truth, integer, parameter}
use Rattle.au_types.specs.Universes.{universe_in}

-- what a name means: a type that takes no arguments, `Span`, a region, a declared type with its type
-- parameters, or a class
pub data Sense : Type 0 where
  a_type : Meaning → Sense
  a_span : Sense
  a_region : Region → Sense
  declared : DeclAt → List Parameter → Sense
  a_class : DeclAt → Sense

-- the names that are built in
abbrev pub built_in : List (Bytes × Sense)
built_in =
    (codes "Unit", a_type unit)
    ∷ (codes "Bool", a_type truth)
    ∷ (codes "Nat8", a_type (integer kinds.Nat8))
    ∷ (codes "Nat16", a_type (integer kinds.Nat16))
    ∷ (codes "Nat32", a_type (integer kinds.Nat32))
    ∷ (codes "Nat64", a_type (integer kinds.Nat64))
    ∷ (codes "Int8", a_type (integer kinds.Int8))
    ∷ (codes "Int16", a_type (integer kinds.Int16))
    ∷ (codes "Int32", a_type (integer kinds.Int32))
    ∷ (codes "Int64", a_type (integer kinds.Int64))
    ∷ (codes "Index", a_type (integer kinds.Index))
    ∷ (codes "Span", a_span)
    ∷ (codes "Static", a_region regions.Static)
    ∷ []

-- a type parameter of this universe: a region, or a type
abbrev pub parameter_sense : Bytes → Universe → Sense
parameter_sense name universes.Region = a_region (regions.Named name)
parameter_sense name universe = a_type (parameter name)

-- a declaration: a type where a row tells its type parameters, and else a class
abbrev pub declared_sense : List (DeclAt × Head) → DeclAt → Sense
declared_sense heads at = by_row (head_of heads at)
  where
    by_row : Option Head → Sense
    by_row None = a_class at
    by_row (Some head) = declared at head.params

-- the region of a borrow statement that is open
abbrev pub open_region : List Bytes → Bytes → Option Sense
open_region opened name =
    if list_any (bytes_eq name) opened then Some (a_region (regions.Named name)) else None

-- a name that is built in, or else a declaration that is visible
abbrev pub outer_sense : List (Bytes × DeclAt) → List (DeclAt × Head) → Bytes → Option Sense
outer_sense visible heads name =
    option_or (find name built_in) (option_map (declared_sense heads) (find name visible))

module _ (opened : List Bytes) (params : List Parameter) (visible : List (Bytes × DeclAt))
    (heads : List (DeclAt × Head)) where
  -- What a name means, the innermost first: a region of an open borrow statement, a type parameter, a
  -- name that is built in, or a declaration.
  abbrev pub sense_of : Bytes → Option Sense
  sense_of name =
      option_or (open_region opened name)
      (option_or
      (option_map (parameter_sense name) (universe_in params name))
      (outer_sense visible heads name))
