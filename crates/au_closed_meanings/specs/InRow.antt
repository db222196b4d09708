-- Closed programs with the rows of their types, whose functions number their names as the program does.
use Rattle.std.specs.Prelude.{◌≡◌, ℕ, Bool, true, List, map, Option}
use Rattle.std.specs.Prelude.{slice_get}
use Rattle.au_closed_trees.specs.ClosedNotes.{Callee, ClosedNote}
use Rattle.au_type_texts.specs.Types.{ClosedType}
use Rattle.au_closed_meanings.specs.Programs.{Body, Row, case_from, fields_at, functions_seen, linear_by}
use Rattle.au_closed_meanings.specs.Programs.{row_in}
use Rattle.au_closing.specs.Closes.{ClosedFunction, ClosesFunctions}
use Rattle.au_closing.specs.Instances.{Instance}
use Rattle.au_typing.specs.Trees.{NotedParts}
use Rattle.au_effects.specs.Parts.{along}
use Rattle.au_meaning.specs.Meanings.{mean}
use Rattle.au_meaning.specs.Views.{Function}
use Rattle.au_modules.specs.Programs.{ModuleParts}
use Rattle.au_syntax.specs.Plain.{Bytes}
use Rattle.au_closed_meanings.specs.Closed.{parameters_seen}
use Rattle.au_closed_meanings.specs.Generic.{fields_in, generic_functions, linear_in, tag_in}
use Rattle.au_closed_meanings.specs.Kept.{HasCase, TypesCount}
use Rattle.au_closed_meanings.specs.Numbers.{first_name, numbers_of}

-- a closed function: the name of its module, its parameters, and its tree
abbrev pub body_seen : ClosedFunction → Body
body_seen f = record { home = f.home; parameters = parameters_seen f; block = f.body }

-- the closed functions as they are run, by their numbers, with these rows of types and these numbers of their
-- first names
abbrev pub functions_in_row : List ClosedFunction → List Row → (ℕ → ℕ) → ℕ
    → Option (Function ℕ ClosedNote (Callee ℕ))
functions_in_row functions rows numbers number =
    slice_get (functions_seen (map body_seen functions) rows numbers) number

-- rows of types say what the program itself says, of each type that counts
pub record RowsSay (known : ClosedType → Bool) (program : List ModuleParts) (rows : List Row) : Type 0 where
  pub tags : (of : ClosedType) → known of ≡ true → (name : Bytes)
      → along (row_in rows of) (λ row. case_from 0 name row.cases) ≡ tag_in program of name
  pub fields : (of : ClosedType) → known of ≡ true → (tag : ℕ)
      → along (row_in rows of) (λ row. fields_at tag row.cases) ≡ fields_in program of tag
  pub linear : (of : ClosedType) → known of ≡ true → HasCase program of
      → linear_by (row_in rows of) ≡ linear_in program of

-- From an entry a program with notes does exactly what the functions do that it closes to with rows of types,
-- which say what the program itself says wherever that counts.
abbrev pub KeepsMeaningInRow : Type 0
KeepsMeaningInRow =
    (program : List ModuleParts) (noted : List NotedParts) (entry : Instance)
    (functions : List ClosedFunction)
    → (closes : ClosesFunctions program noted entry functions)
    → (rows : List Row) (known : ClosedType → Bool)
    → RowsSay known program rows
    → TypesCount known program functions
    → (input : List ℕ) (ticks : ℕ)
    → mean (generic_functions program noted (first_name program noted)) entry input ticks
    ≡ mean (functions_in_row functions rows (numbers_of program noted closes.instances)) 0 input ticks
