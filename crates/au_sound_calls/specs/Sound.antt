-- Stores of running programs that are as they should be, and what shipped calls come to.
use Rattle.std.specs.Prelude.{◌≡◌, ℕ, true, List, ◌∷◌, Option, Some}
use Rattle.au_effects.specs.Answers.{Answer, aborts, gives, none, waits, writes}
use Rattle.au_effects.specs.Values.{unit}
use Rattle.au_effects.specs.Worlds.{World}
use Rattle.au_events.specs.Events.{AtMostOnce, Inside, OwnMade}
use Rattle.au_types.specs.Types.{Meaning}
use Rattle.au_memory.specs.Forests.{Holds, Made}
use Rattle.au_memory.specs.Loans.{Types}
use Rattle.au_memory.specs.Shown.{AreDeclared, AreLawful}
use Rattle.au_lending.specs.Buffers.{BuffersAreAlone}
use Rattle.au_lending.specs.Laws.{BoxesAreAlone}
use Rattle.au_lending.specs.Parting.{CasesAreAlone}
use Rattle.au_borrows.specs.Orders.{Act}
use Rattle.au_borrows.specs.Told.{Open}
use Rattle.au_acting.specs.Granting.{GrantsAreAlone}
use Rattle.au_acting.specs.Safe.{IsSafe}
use Rattle.au_agreeing.specs.Stores.{memory_of, sizes_of, told_of}

module _ {B : Type 0} (types : Types) (owner : B → Option (List ℕ)) (acts : List Act) (hold : Holds)
    (type : ℕ → ℕ → Meaning) where
  -- A store with these values under way, these borrows open, and so many names in its frames is as it
  -- should be: its deeds are kept, and its memory and what is told of it are as they should be.
  pub record IsSound (under : Made) (lying : List Open) (sizes : List ℕ) (w : World (List ℕ) B) : Type 0 where
    pub keeps : w.keeps ≡ true
    pub sized : sizes_of w ≡ sizes
    pub safe : IsSafe types owner acts hold type under (memory_of w) (told_of lying w)

  -- What was told of it is.
  abbrev pub IsToldWell : World (List ℕ) B → Type 0
  IsToldWell w = AtMostOnce w.deeds × Inside w.deeds × OwnMade owner w.deeds

  -- A shipped call comes to a value of this type, over these, in such a store; or it aborts in one that was
  -- told well. There is a rule for it, and it doesn't wait.
  abbrev pub GoesWell : Meaning → Made → (lying : List Open) (sizes : List ℕ) → Answer (List ℕ) B → Type 0
  GoesWell t under lying sizes (gives v w) = IsSound ((v, t) ∷ under) lying sizes w
  GoesWell t under lying sizes (writes bytes w) = IsSound ((unit, t) ∷ under) lying sizes w
  GoesWell t under lying sizes waits = ⊥
  GoesWell t under lying sizes (aborts fault w) = IsToldWell w
  GoesWell t under lying sizes none = ⊥

-- ---- what is known of types

-- Declared types have their forms, and each form is its own; Free types have no births.
pub record AreTyped (types : Types) : Type 0 where
  pub forms : AreDeclared types
  pub lawful : AreLawful types
  pub boxes : BoxesAreAlone types
  pub buffers : BuffersAreAlone types
  pub cases : CasesAreAlone types
  pub grants : GrantsAreAlone types

-- what is born of a type has its home in this module, if one owns the type
abbrev pub IsHomeOf : {B : Type 0} → (B → Option (List ℕ)) → B → List ℕ → Type 0
IsHomeOf owner kind home = (own : List ℕ) → owner kind ≡ Some own → home ≡ own
