-- What is round a tree of a closed program, by its functions and the rows of its types.
use Rattle.std.specs.Prelude.{ℕ, suc, ◌+◌, Bool, false, List, [], ◌∷◌, map, Option, Some, None, slice_get}
use Rattle.std.specs.Prelude.{if◌then◌else◌}
use Rattle.std.specs.List.{find}
use Rattle.std.specs.Option.{option_map}
use Rattle.std.specs.Str.{bytes_eq}
use Rattle.au_closed_trees.specs.ClosedNotes.{Callee, ClosedNote, ClosedStatements}
use Rattle.au_type_texts.specs.Same.{same}
use Rattle.au_type_texts.specs.Types.{ClosedType}
use Rattle.au_effects.specs.Parts.{along}
use Rattle.au_meaning.specs.Views.{Field, Function, View}
use Rattle.au_syntax.specs.Plain.{Bytes}
use Rattle.au_closed_meanings.specs.Surroundings.{Surroundings, field_names, view_in}

-- ---- what there is

-- a case, or a record: its name, and its fields in declared order
pub record Case : Type 0 where
  pub name : Bytes
  pub fields : List Field

-- a declared type: whether it is linear, and its cases
pub record Row : Type 0 where
  pub of : ClosedType
  pub linear : Bool
  pub cases : List Case

-- a function: the name of its module, its parameters, and its tree
pub record Body : Type 0 where
  pub home : Bytes
  pub parameters : List Field
  pub block : ClosedStatements

-- ---- what is looked up

-- the row of a type
abbrev pub row_in : List Row → ClosedType → Option Row
row_in rows of = find (λ (row : Row). same row.of of) rows

-- the number of the case of a name, where the first case has this number
abbrev pub case_from : ℕ → Bytes → List Case → Option ℕ
case_from number name [] = None
case_from number name (one ∷ rest) =
    if bytes_eq one.name name then Some number else case_from (number + 1) name rest

-- the fields of the case of a number
abbrev pub fields_at : ℕ → List Case → Option (List Field)
fields_at tag cases = option_map (λ (one : Case). one.fields) (slice_get cases tag)

-- whether a type with this row is linear: one without a row isn't declared, and isn't
abbrev pub linear_by : Option Row → Bool
linear_by None = false
linear_by (Some row) = row.linear

module _ (functions : List Body) (rows : List Row) where
  -- what is round a tree that stands in the text of a module
  abbrev pub surroundings : Bytes → Surroundings
  surroundings home = record {
    parameters = λ number. option_map (λ (f : Body). field_names f.parameters) (slice_get functions number);
    home = home;
    tag = λ of name. along (row_in rows of) (λ row. case_from 0 name row.cases);
    fields = λ of tag. along (row_in rows of) (λ row. fields_at tag row.cases);
    is_linear = λ of. linear_by (row_in rows of);
  }

  -- the view of such a tree
  abbrev pub closed_view : Bytes → View ℕ ClosedNote (Callee ℕ)
  closed_view home = view_in (surroundings home)

  -- a function as it is run, whose first name has this number
  abbrev pub function_seen : ℕ → Body → Function ℕ ClosedNote (Callee ℕ)
  function_seen first f = record {
    view = closed_view f.home;
    parameters = f.parameters;
    first = first;
    body = f.block;
  }

  -- functions in order, each with the number of its first name, by its own number
  abbrev pub functions_by : (ℕ → ℕ) → List Body → List (Function ℕ ClosedNote (Callee ℕ))
  functions_by numbers [] = []
  functions_by numbers (f ∷ rest) =
      function_seen (numbers 0) f ∷ functions_by (λ n. numbers (suc n)) rest

  -- the functions as they are run
  abbrev pub functions_seen : (ℕ → ℕ) → List (Function ℕ ClosedNote (Callee ℕ))
  functions_seen numbers = functions_by numbers functions
