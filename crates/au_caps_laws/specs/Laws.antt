-- The laws on what may be born.
use Rattle.std.specs.Prelude.{◌≡◌, ℕ, List, [], ◌∷◌, ◌++◌, Option, codes}
use Rattle.au_effects.specs.Worlds.{born}
use Rattle.au_type_texts.specs.Types.{ClosedType}
use Rattle.au_meaning.specs.Meanings.{call_at, mean}
use Rattle.au_meaning.specs.Views.{Function}
use Rattle.au_meaning.specs.Worlds.{Event, Value, World}
use Rattle.au_caps_laws.specs.Bearing.{AreBounds, AreWithin, BearsTo}

-- From the beginning to the end of a call of a function, or to where the run ends in it, only values of types
-- are born that its bounds have.
abbrev pub CallsBearWithin : {I T C : Type 0} → (I → Option (Function I T C)) → (I → ClosedType → Type 0)
    → Type 0
CallsBearWithin {I} functions Q =
    AreBounds functions Q → (depth : ℕ) (one : I) (args : List Value) (before : World) (ticks : ℕ)
    → BearsTo (Q one) before (call_at functions depth one args before ticks)

-- nothing is told, or that the root is born
pub data IsRootAlone : List Event → Type 0 where
  no_root : IsRootAlone []
  the_root : (of : ClosedType) → IsRootAlone (born 0 of (codes "Austral.Pervasive") ∷ [])

-- What a run from an entry tells begins with the birth of the root, where the entry has it; whatever else is
-- born is of a type that the entry's bounds have.
pub record RunBearsWithin (P : ClosedType → Type 0) (told : List Event) : Type 0 where
  pub first : List Event
  pub more : List Event
  pub all : told ≡ first ++ more
  pub root : IsRootAlone first
  pub within : AreWithin P more

abbrev pub RunsBearWithin : {I T C : Type 0} → (I → Option (Function I T C)) → (I → ClosedType → Type 0)
    → Type 0
RunsBearWithin {I} functions Q =
    AreBounds functions Q → (entry : I) (input : List ℕ) (ticks : ℕ)
    → RunBearsWithin (Q entry) (mean functions entry input ticks).world.store.deeds
