-- What is born while something is done, and what may be born while a function runs.
use Rattle.std.specs.Prelude.{◌≡◌, Bool, true, List, [], ◌∷◌, ◌++◌, Option, None, Some, Contains}
use Rattle.au_effects.specs.Worlds.{born}
use Rattle.au_type_texts.specs.Types.{ClosedType}
use Rattle.au_closed_trees.specs.Calls.{calls_in_block}
use Rattle.au_meaning.specs.Ticks.{Out, gives, aborts, cut, no_rule}
use Rattle.au_meaning.specs.Views.{Act, Callee, Function, invokes, makes, ships}
use Rattle.au_meaning.specs.Worlds.{Event, Store, World}

-- an event is no birth, or that of a value of one of these types
abbrev pub IsWithin : (ClosedType → Type 0) → Event → Type 0
IsWithin P (born id of home) = P of
IsWithin P other = Unit {0}

-- each of some events is
abbrev pub AreWithin : (ClosedType → Type 0) → List Event → Type 0
AreWithin P [] = Unit {0}
AreWithin P (one ∷ rest) = IsWithin P one × AreWithin P rest

-- From one store to another events are told, after those that were told before, and what is born is of one of
-- these types.
pub record Bears (P : ClosedType → Type 0) (before after : Store) : Type 0 where
  pub more : List Event
  pub adds : after.deeds ≡ before.deeds ++ more
  pub within : AreWithin P more

-- so is it from a world to that which an action leaves, however it ends
unfoldable pub BearsTo : {A : Type 0} → (ClosedType → Type 0) → World → Out A → Type 0
BearsTo P before (gives a after left) = Bears P before.store after.store
BearsTo P before (aborts fault after left) = Bears P before.store after.store
BearsTo P before (cut after) = Bears P before.store after.store
BearsTo P before (no_rule after left) = Bears P before.store after.store

-- ---- bounds

-- what a call does, if something is called
abbrev pub act_in : {I : Type 0} → Option (Callee I) → List (Act I)
act_in None = []
act_in (Some callee) = callee.act ∷ []

-- what the calls in the text of a function do
abbrev pub acts_in : {I T C : Type 0} → Function I T C → List (Act I)
acts_in f = calls_in_block (λ note c name. act_in (f.view.callee note c name)) f.body

-- What may be born by a call is of these types, given which types those are for each function: so is what a
-- function may bear that is called, what is made, where it is linear, and what a shipped call bears.
abbrev pub StaysWithin : {I : Type 0} → (I → ClosedType → Type 0) → (ClosedType → Bool)
    → (ClosedType → Type 0) → Act I → Type 0
StaysWithin Q is_linear P (invokes one) = (of : ClosedType) → Q one of → P of
StaysWithin Q is_linear P (makes of tag home) = is_linear of ≡ true → P of
StaysWithin Q is_linear P (ships call of) = (t : ClosedType) → of ≡ Some t → P t

-- Types for each function bound what it may bear: whatever may be born by the calls in its text is of these.
abbrev pub AreBounds : {I T C : Type 0} → (I → Option (Function I T C)) → (I → ClosedType → Type 0) → Type 0
AreBounds {I} {T} {C} functions Q =
    (one : I) (f : Function I T C) → functions one ≡ Some f → (act : Act I) → Contains (acts_in f) act
    → StaysWithin Q f.view.is_linear (Q one) act
