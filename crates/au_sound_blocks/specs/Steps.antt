-- The laws of actions on which statements rest, as one record.
use Rattle.std.specs.Prelude.{◌≡◌, ◌⊎◌, ℕ, List, ◌∷◌, Option}
use Rattle.au_type_texts.specs.Types.{ClosedType}
use Rattle.au_memory.specs.Forests.{Made, empty}
use Rattle.au_memory.specs.Loans.{Types}
use Rattle.au_sound_expressions.specs.Orders.{Act}
use Rattle.au_sound_expressions.specs.Frames.{Frame}
use Rattle.au_meaning.specs.Worlds.{World}
use Rattle.au_sound_expressions.specs.Behind.{WritersPutWell}
use Rattle.au_sound_expressions.specs.Good.{IsIn}
use Rattle.au_sound_expressions.specs.Making.{ApartWell}
use Rattle.au_sound_expressions.specs.Naming.{HoldsWell, SetsWell}
use Rattle.au_sound_expressions.specs.Telling.{TellsReadersWell, TellsValuesWell, TellsWritersWell}
use Rattle.au_sound_expressions.specs.Binding.{FieldsAreBound}
use Rattle.au_sound_expressions.specs.Coming.{DropsWell, NumbersAreTold, NumbersGoOn}
use Rattle.au_sound_expressions.specs.Filling.{EmptiesWell, FillsWell}
use Rattle.au_sound_expressions.specs.Blocks.{Names}
use Rattle.au_sound_expressions.specs.Lives.{Standing}
use Rattle.au_sound_expressions.specs.Actions.{ActionsAreSafe}
use Rattle.au_sound_expressions.specs.Safe.{frame}

-- The types of names that are empty don't matter.
abbrev pub TypesOfEmptyNames : Types → (ClosedType → Option (List ℕ)) → List Act → List Frame → List ℕ
    → Made → World
    → Type 0
TypesOfEmptyNames types owner acts fs sizes under w =
    (hold : Standing) (names others : Names) → ((k : ℕ) → (hold k ≡ empty) ⊎ (names k ≡ others k))
    → IsIn types owner acts (frame hold names ∷ fs) sizes under w
    → IsIn types owner acts (frame hold others ∷ fs) sizes under w

-- Each action of a statement is safe.
pub record StepsAreSafe (types : Types) (owner : ClosedType → Option (List ℕ)) : Type 0 where
  pub actions : ActionsAreSafe types owner
  pub fields : FieldsAreBound
  pub numbers : NumbersGoOn
  pub renamed : (acts : List Act) (fs : List Frame) (sizes : List ℕ) (under : Made) (w : World)
      → TypesOfEmptyNames types owner acts fs sizes under w
  pub dropped : (acts : List Act) (fs : List Frame) (sizes : List ℕ) (under : Made) (w : World)
      → DropsWell types owner acts fs sizes under w
  pub numbered : (acts : List Act) (fs : List Frame) (sizes : List ℕ) (under : Made) (w : World)
      → NumbersAreTold types owner acts fs sizes under w
  pub apart : (acts : List Act) (fs : List Frame) (sizes : List ℕ) (under : Made) (w : World) (ticks : ℕ)
      → ApartWell types owner acts fs sizes under w ticks
  pub values : (acts : List Act) (fs : List Frame) (sizes : List ℕ) (under : Made) (w : World) (ticks : ℕ)
      → TellsValuesWell types owner acts fs sizes under w ticks
  pub writers : (acts : List Act) (fs : List Frame) (sizes : List ℕ) (under : Made) (w : World) (ticks : ℕ)
      → TellsWritersWell types owner acts fs sizes under w ticks
  pub readers : (acts : List Act) (fs : List Frame) (sizes : List ℕ) (under : Made) (w : World) (ticks : ℕ)
      → TellsReadersWell types owner acts fs sizes under w ticks
  pub held : (acts : List Act) (f : Frame) (fs : List Frame) (sizes : List ℕ) (size : ℕ) (under : Made)
      (w : World)
      (ticks : ℕ) → HoldsWell types owner acts f fs sizes size under w ticks
  pub set : (acts : List Act) (f : Frame) (fs : List Frame) (sizes : List ℕ) (size : ℕ) (under : Made)
      (w : World)
      (ticks : ℕ) → SetsWell types owner acts f fs sizes size under w ticks
  pub put : (acts : List Act) (f : Frame) (fs : List Frame) (sizes : List ℕ) (size : ℕ) (under : Made)
      (w : World)
      (ticks : ℕ) → WritersPutWell types owner acts f fs sizes size under w ticks
  pub filled : (acts : List Act) (f : Frame) (fs : List Frame) (sizes : List ℕ) (size : ℕ) (under : Made)
      (w : World)
      → FillsWell types owner acts f fs sizes size under w
  pub emptied : (acts : List Act) (f : Frame) (fs : List Frame) (sizes : List ℕ) (size : ℕ) (under : Made)
      (w : World)
      → EmptiesWell types owner acts f fs sizes size under w
