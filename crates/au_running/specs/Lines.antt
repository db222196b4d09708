-- The lines in which the events of a run are told.
use Rattle.std.specs.Prelude.{ℕ, Bool, true, false, List, [], ◌∷◌, ◌++◌, map, Option, Some, None, slice_get}
use Rattle.std.specs.Prelude.{codes, decimal}
use Rattle.std.specs.List.{flat_map}
use Rattle.au_effects.specs.Worlds.{Deed, born, consumed, opened, used, closed}
use Rattle.au_low.specs.declared.code.Code.{Code}
use Rattle.au_low.specs.declared.code.LowType.{LowType}
use Rattle.au_lowered.specs.Maps.{deed_to}
use Rattle.au_syntax.specs.Plain.{Bytes}

-- what is said of an event whose type is told by its text: a birth has its number, its type and its home
abbrev pub deed_words : Deed Bytes → Bytes
deed_words (born id of home) = codes "born " ++ (decimal id ++ (codes " " ++ (of ++ (codes " " ++ home))))
deed_words (consumed id) = codes "consumed " ++ decimal id
deed_words (opened borrow) = codes "opened " ++ decimal borrow
deed_words (used borrow) = codes "used " ++ decimal borrow
deed_words (closed borrow) = codes "closed " ++ decimal borrow

-- its line: what is said of it, and a newline
abbrev pub deed_line : Deed Bytes → Bytes
deed_line deed = deed_words deed ++ 10 ∷ []

abbrev pub deed_lines : List (Deed Bytes) → Bytes
deed_lines deeds = flat_map deed_line deeds

-- ---- of code

-- the text of a type, if it is there
abbrev pub text_if : Option LowType → Bytes
text_if None = []
text_if (Some type) = type.text

-- the text of the type of a number in code
abbrev pub type_text : Code → ℕ → Bytes
type_text code number = text_if (slice_get code.types number)

-- the events of a run of code, with the texts of their types
abbrev pub deeds_told : Code → List (Deed ℕ) → List (Deed Bytes)
deeds_told code events = map (deed_to (type_text code)) events

-- what a call tells of the events of a run of code: their lines, if it is to tell them
abbrev pub told_lines : Bool → Code → List (Deed ℕ) → Bytes
told_lines true code events = deed_lines (deeds_told code events)
told_lines false code events = []
