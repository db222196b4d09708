-- Rows of types that are made for a list of declared types.
use Rattle.std.specs.Prelude.{◌≡◌, ℕ, Bool, true, List, map, Contains, Some, slice_get}
use Rattle.au_closed_trees.specs.Occurring.{counts_in, follows, occurring_in_fields}
use Rattle.au_closing.specs.Closes.{ClosedFunction}
use Rattle.au_names.specs.HeadsOf.{heads_of}
use Rattle.au_closed_trees.specs.Types.{types_in_block}
use Rattle.au_closed_meanings.specs.Kept.{TypesCount}
use Rattle.au_type_texts.specs.Same.{same}
use Rattle.au_type_texts.specs.Types.{ClosedType, named, reads, writes}
use Rattle.au_closed_meanings.specs.Programs.{Row}
use Rattle.au_modules.specs.Programs.{ModuleParts}
use Rattle.au_graphs.specs.Reached.{Has, has}
use Rattle.au_closed_meanings.specs.Generic.{cases_in, linear_in}
use Rattle.au_closed_meanings.specs.InRow.{RowsSay}

-- the row that a program has for a type, and those for types in order
abbrev pub row_for : List ModuleParts → ClosedType → Row
row_for program of = record { of = of; linear = linear_in program of; cases = cases_in program of }

abbrev pub rows_for : List ModuleParts → List ClosedType → List Row
rows_for program all = map (row_for program) all

-- a type counts where it stands in a list, or isn't a declared one, and that of a reference where that behind
-- it does
abbrev pub counts_by : List ClosedType → ClosedType → Bool
counts_by all (named at args) = has same all (named at args)
counts_by all (reads of) = counts_by all of
counts_by all (writes of) = counts_by all of
counts_by all of = true

-- rows that are made so say what the program itself says
abbrev pub RowsMadeSay : Type 0
RowsMadeSay =
    (program : List ModuleParts) (all : List ClosedType)
    → RowsSay (counts_by all) program (rows_for program all)

-- A list has the declared types that occur in the parameters of closed functions and in what is noted in
-- their trees, and with a type those that occur in its fields, outside boxes and buffers.
pub record ListsTypes (program : List ModuleParts) (functions : List ClosedFunction) (all : List ClosedType)
    : Type 0 where
  pub parameters : (number : ℕ) (f : ClosedFunction) → slice_get functions number ≡ Some f → (of : ClosedType)
      → Contains (occurring_in_fields (counts_in true (heads_of program)) f.parameters) of → Has same all of
  pub notes : (number : ℕ) (f : ClosedFunction) → slice_get functions number ≡ Some f → (of : ClosedType)
      → Contains (types_in_block (heads_of program) f.body) of → Has same all of
  pub inside : (one of : ClosedType) → Has same all one → Contains (follows program one) of → Has same all of

-- by such a list the types count that have to
abbrev pub ListedCount : Type 0
ListedCount =
    (program : List ModuleParts) (functions : List ClosedFunction) (all : List ClosedType)
    → ListsTypes program functions all
    → TypesCount (counts_by all) program functions
