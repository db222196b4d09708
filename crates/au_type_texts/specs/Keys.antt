-- The keys of closed types: numbers from which a type is told, whatever stands behind them.
use Rattle.std.specs.Prelude.{ℕ, List, [], ◌∷◌, ◌++◌}
use Rattle.au_base.specs.declared.kinds.IntKind.{IntKind}
use Rattle.au_base.specs.declared.kinds.IntKind.TheVariants.{Nat8, Nat16, Nat32, Nat64, Int8, Int16, Int32}
use Rattle.au_base.specs.declared.kinds.IntKind.TheVariants.{Int64, Index}
use Rattle.au_types.specs.declared.types.DeclAt.{DeclAt}
use Rattle.au_type_texts.specs.Types.{ClosedType, ClosedTypes, unit, truth, integer, text, named, reads}
use Rattle.au_type_texts.specs.Types.{writes, no_types, types}

-- a number for each kind of integers
abbrev pub kind_key : IntKind → ℕ
kind_key Nat8 = 0
kind_key Nat16 = 1
kind_key Nat32 = 2
kind_key Nat64 = 3
kind_key Int8 = 4
kind_key Int16 = 5
kind_key Int32 = 6
kind_key Int64 = 7
kind_key Index = 8

-- a declared type begins with the place of its declaration
abbrev pub place_key : DeclAt → List ℕ
place_key at = 5 ∷ at.«module» ∷ at.decl ∷ []

abbrev mutual
  -- a closed type: what it is, and then what it is made of
  pub key_of : ClosedType → List ℕ
  key_of unit = 0 ∷ []
  key_of truth = 1 ∷ []
  key_of text = 2 ∷ []
  key_of (reads to) = 3 ∷ key_of to
  key_of (writes to) = 4 ∷ key_of to
  key_of (named at args) = place_key at ++ list_key args
  key_of (integer kind) = 7 ∷ kind_key kind ∷ []

  -- closed types in order, and what ends them
  pub list_key : ClosedTypes → List ℕ
  list_key no_types = 6 ∷ []
  list_key (types one rest) = key_of one ++ list_key rest
