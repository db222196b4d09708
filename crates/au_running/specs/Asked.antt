-- What is asked of closed functions besides that they are derived, each in its own words.
use Rattle.std.specs.Prelude.{◌≡◌, ℕ, true, List, Some, slice_get}
use Rattle.au_syntax.specs.Plain.{Bytes}
use Rattle.au_modules.specs.Programs.{ModuleParts}
use Rattle.au_type_texts.specs.Types.{ClosedType}
use Rattle.au_closed_trees.specs.ClosedNotes.{Callee, ClosedNote}
use Rattle.au_closed_trees.specs.declared.notes.Literal.{Literal}
use Rattle.au_closing.specs.Closes.{ClosedFunction}
use Rattle.au_closed_meanings.specs.Surroundings.{field_names, literal_value}
use Rattle.au_closed_meanings.specs.Closed.{names_at}
use Rattle.au_closed_meanings.specs.Generic.{fields_in}
use Rattle.au_meaning.specs.Views.{Field}
use Rattle.au_running.specs.Suits.{SaidOfBlock, are_once, has_literal}

-- The parameters of each closed function have names of their own.
abbrev pub ParametersAreOnce : List ClosedFunction → Type 0
ParametersAreOnce functions =
    (number : ℕ) (names : List Bytes) → names_at functions number ≡ Some names → are_once names ≡ true

-- So have the fields of each case of a type.
abbrev pub FieldsAreOnce : List ModuleParts → Type 0
FieldsAreOnce program =
    (of : ClosedType) (tag : ℕ) (fields : List Field) → fields_in program of tag ≡ Some fields
    → are_once (field_names fields) ≡ true

-- the literal of a constant that is mentioned, if it is one, lies in the range of its kind
abbrev pub InRange : ClosedNote → Bytes → Type 0
InRange note name = (literal : Literal) → note.literal ≡ Some literal
    → has_literal (literal_value literal) ≡ true

-- nothing is said of a call
abbrev pub IsAny : ClosedNote → Callee ℕ → Bytes → Type 0
IsAny note c name = Unit {0}

-- Each constant that a closed function mentions is a literal in range.
abbrev pub AreSimple : List ClosedFunction → Type 0
AreSimple functions =
    (number : ℕ) (f : ClosedFunction) → slice_get functions number ≡ Some f → SaidOfBlock InRange IsAny f.body
