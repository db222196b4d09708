-- How a run begins and ends, and which borrows lie open where a token begins and ends.
use Rattle.std.specs.Prelude.{◌≡◌, ◌⊎◌, ℕ, Bool, true, List, [], ◌∷◌, length, Option, Some, codes}
use Rattle.au_effects.specs.Values.{root}
use Rattle.au_events.specs.Events.{AllClosed, Once}
use Rattle.au_types.specs.Types.{Meaning}
use Rattle.au_type_texts.specs.Types.{ClosedType}
use Rattle.au_memory.specs.Forests.{Made}
use Rattle.au_memory.specs.Loans.{Types}
use Rattle.au_safe_acts.specs.Orders.{Act}
use Rattle.au_safe_acts.specs.Frames.{Frame}
use Rattle.au_meaning.specs.Acts.{closed_to}
use Rattle.au_meaning.specs.Meanings.{exit_in, first_world, root_born}
use Rattle.au_meaning.specs.Worlds.{Value, World, exit}
use Rattle.au_safe_acts.specs.Sound.{AreTyped, IsHomeOf}
use Rattle.au_safe_acts.specs.Good.{IsIn, lying_in}

-- The first world is as it should be.
abbrev pub StartsWell : Type 0
StartsWell =
    (types : Types) (owner : ClosedType → Option (List ℕ)) (input : List ℕ)
    → IsIn types owner [] [] [] [] (first_world input)

-- A type of exits: a success is of case 0, and a failure of case 1, both without fields, and there is no
-- other.
pub record IsExitOf (types : Types) (t : Meaning) : Type 0 where
  pub free : types.is_free t ≡ true
  pub success : types.fields t 0 ≡ Some []
  pub failure : types.fields t 1 ≡ Some []
  pub only : (tag : ℕ) (of : List Meaning) → types.fields t tag ≡ Some of → (tag ≡ 0) ⊎ (tag ≡ 1)

module _ (types : Types) (owner : ClosedType → Option (List ℕ)) (acts : List Act) (fs : List Frame)
    (sizes : List ℕ) (under : Made) (w : World) where
  -- As many borrows are counted as lie open; and where the newest token ends, those are left that lay open
  -- when it began.
  abbrev pub CountsLying : Type 0
  CountsLying =
      (length w.borrows ≡ length (lying_in w))
      × ((a : Act) (older : List Act) → acts ≡ a ∷ older → IsIn types owner acts fs sizes under w
      → lying_in (closed_to (length a.base) w) ≡ a.base)

  -- The root is born.
  abbrev pub RootsComeWell : Type 0
  RootsComeWell =
      (t : Meaning) (of : ClosedType) → types.is_root t ≡ true → IsHomeOf owner of (codes "Austral.Pervasive")
      → IsIn types owner acts fs sizes under w
      → IsIn types owner acts fs sizes ((root (length w.store.births), t) ∷ under) (root_born of w)

  -- A value of a type of exits is an exit, and is dropped.
  abbrev pub ExitsWell : Type 0
  ExitsWell =
      AreTyped types → (v : Value) (t : Meaning) → IsExitOf types t
      → IsIn types owner acts fs sizes ((v, t) ∷ under) w
      → (b : Bool) × (exit_in v ≡ exit b) × IsIn types owner acts fs sizes under w

-- Where no token is active, no frame is left and no value under way, each birth was consumed; and each
-- borrow was closed, where none lies open.
abbrev pub FinishesWell : Type 0
FinishesWell =
    (types : Types) (owner : ClosedType → Option (List ℕ)) (sizes : List ℕ) (w : World)
    → IsIn types owner [] [] sizes [] w → Once w.store.deeds × (lying_in w ≡ [] → AllClosed w.store.deeds)
