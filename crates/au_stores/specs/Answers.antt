-- What shipped calls come to, as the stores answer them.
use Rattle.std.specs.Prelude.{ℕ, Bool, true, false, [], ◌∷◌, Option, Some, None}
use Rattle.au_shipped.specs.declared.prims.AbortKind.{AbortKind}
use Rattle.au_shipped.specs.declared.prims.AbortKind.TheVariants as kind
use Rattle.au_effects.specs.Answers as answer
use Rattle.au_low.specs.Machines.{LowWorld}
use Rattle.au_cells.specs.declared.cells.Cell.{Cell}
use Rattle.au_cells.specs.Cells.{low}
use Rattle.au_stores.specs.declared.answers.Answered.{Answered}
use Rattle.au_stores.specs.declared.answers.Answered.TheVariants.{Gives, Aborts, NoRule}

-- why a program aborts
abbrev pub fault_of : AbortKind → answer.Fault ℕ
fault_of kind.Arithmetic = answer.arithmetic
fault_of (kind.Called text) = answer.called text
fault_of kind.NotEmpty = answer.not_empty
fault_of kind.Empty = answer.empty
fault_of kind.OutOfRange = answer.out_of_range

-- what a call came to, with the world that is then
abbrev pub answer_of : Answered → LowWorld → answer.Answer ℕ ℕ
answer_of (Gives cell) world = answer.gives (low cell) world
answer_of (Aborts why) world = answer.aborts (fault_of why) world
answer_of NoRule world = answer.none

-- what is given, or the abort where nothing is
abbrev pub given_or : Option Cell → AbortKind → Answered
given_or None why = Aborts why
given_or (Some cell) why = Gives cell

-- whether a call waits for the next byte of the input
abbrev pub waiting : Bool → answer.Answer ℕ ℕ
waiting true = answer.waits
waiting false = answer.none

-- the byte that a call writes
abbrev pub writing : Option ℕ → LowWorld → answer.Answer ℕ ℕ
writing None world = answer.none
writing (Some byte) world = answer.writes (byte ∷ []) world
