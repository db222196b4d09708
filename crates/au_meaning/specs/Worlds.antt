-- The world of a source program that runs, and what is seen of a run.
use Rattle.std.specs.Prelude.{ℕ, Bool, List}
use Rattle.au_syntax.specs.declared.types.Access.{Access}
use Rattle.au_syntax.specs.Plain.{Bytes}
use Rattle.au_type_texts.specs.Types.{ClosedType}
use Rattle.au_effects.specs.Values as values
use Rattle.au_effects.specs.Values.{Place}
use Rattle.au_effects.specs.Worlds as effects
use Rattle.au_effects.specs.Answers as answer

-- a value of a source program, in which a text is its bytes
abbrev pub Value : Type 0
Value = values.Value Bytes

-- an event: a birth has its closed type
abbrev pub Event : Type 0
Event = effects.Deed ClosedType

-- why a program aborts: a called abort has the bytes of its text
abbrev pub Fault : Type 0
Fault = answer.Fault Bytes

-- what lowered code has too: the names of each frame, what boxes and buffers hold, the numbers of the next
-- birth and of the next borrow, and the events
abbrev pub Store : Type 0
Store = effects.World Bytes ClosedType

-- a borrow that is open: its number, whether it reads or writes, and its place
pub record Borrow : Type 0 where
  pub number : ℕ
  pub access : Access
  pub place : Place

-- The world: the store, the open borrows, the newest first, the bytes that were written, and the bytes of
-- the input that are left.
pub record World : Type 0 where
  pub store : Store
  pub borrows : List Borrow
  pub output : List ℕ
  pub left : List ℕ

-- How a run ends: by an exit with success or without, by an abort, not yet, or where no rule applies.
pub data Ending : Type 0 where
  exit : Bool → Ending
  abort : Fault → Ending
  running : Ending
  stuck : Ending

-- what a run gives: the world, how many ticks it made, and how it ended
pub record Outcome : Type 0 where
  pub world : World
  pub made : ℕ
  pub ending : Ending
