-- What it means that a run of lowered code and one of the meaning do the same: lowered code tells texts and
-- types by their numbers.
use Rattle.std.specs.Prelude.{◌≡◌, ℕ, ◌*◌, nat_le, IsTrue, List, map}
use Rattle.au_type_texts.specs.Types.{ClosedType}
use Rattle.au_effects.specs.Answers as answer
use Rattle.au_effects.specs.Worlds.{Deed, born, consumed, opened, used, closed}
use Rattle.au_low.specs.declared.endings.Ending.{Ending}
use Rattle.au_low.specs.declared.endings.Ending.TheVariants.{Exit, Abort, Steps, Stuck}
use Rattle.au_low.specs.Runs as low
use Rattle.au_low.specs.Runs.{abort_kind}
use Rattle.au_meaning.specs.Views.{Function}
use Rattle.au_meaning.specs.Worlds as source
use Rattle.au_meaning.specs.Worlds.{Event, Fault, exit, abort, running, stuck}
use Rattle.au_syntax.specs.Plain.{Bytes}
use Rattle.au_lowered.specs.Programs.{texts_in, types_in, text_number, type_number}

-- an event
abbrev pub event_numbered : List ClosedType → Event → Deed ℕ
event_numbered types (born id of home) = born id (type_number types of) home
event_numbered types (consumed id) = consumed id
event_numbered types (opened borrow) = opened borrow
event_numbered types (used borrow) = used borrow
event_numbered types (closed borrow) = closed borrow

-- why a program aborts
abbrev pub fault_numbered : List Bytes → Fault → answer.Fault ℕ
fault_numbered texts answer.arithmetic = answer.arithmetic
fault_numbered texts (answer.called text) = answer.called (text_number texts text)
fault_numbered texts answer.not_empty = answer.not_empty
fault_numbered texts answer.empty = answer.empty
fault_numbered texts answer.out_of_range = answer.out_of_range

-- how a run ends: the steps are over where the ticks were
abbrev pub ending_numbered : List Bytes → source.Ending → Ending
ending_numbered texts (exit success) = Exit success
ending_numbered texts (abort fault) = Abort (abort_kind (fault_numbered texts fault))
ending_numbered texts running = Steps
ending_numbered texts stuck = Stuck

-- A run of the code of a program does what a run of its meaning does: it ends in the same way, and has the
-- same output, input left and events.
pub record Agrees {T C : Type 0} (functions : List (Function ℕ T C)) (meant : source.Outcome)
    (ran : low.Outcome) : Type 0 where
  pub ending : ran.ending ≡ ending_numbered (texts_in functions) meant.ending
  pub output : ran.output ≡ meant.world.output
  pub left : ran.left ≡ meant.world.left
  pub events : ran.events ≡ map (event_numbered (types_in functions)) meant.world.store.deeds

-- It makes as many steps as the other ticks, or more, and at most eight times as many.
pub record InStep (meant : source.Outcome) (ran : low.Outcome) : Type 0 where
  pub least : IsTrue (nat_le meant.made ran.made)
  pub most : IsTrue (nat_le ran.made (8 * meant.made))
