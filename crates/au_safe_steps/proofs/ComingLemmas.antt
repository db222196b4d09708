-- Values under way come, change places, are told, and are dropped.
use Rattle.std.proofs.Common.{◌≡◌, inl, inr, ℕ, ◌&&◌, Bool, true, false, List, ◌∷◌, Option, refl, subst}
use Rattle.std.proofs.Common.{ℤ, pos, arith}
use Rattle.std.specs.Prelude.{◌+ℤ◌, int_le}
use Rattle.std.proofs.lemmas.Int.{ints}
use Rattle.au_ints.specs.Ranges.{greatest_of, least_of}
use Rattle.au_types.specs.Types.{Meaning, integer, truth}
use Rattle.au_type_texts.specs.Types.{ClosedType}
use Rattle.au_memory.specs.Forests.{Made}
use Rattle.au_memory.specs.Loans.{Types}
use Rattle.au_lending.specs.Records.{onto}
use Rattle.au_safe_acts.specs.Orders.{Act}
use Rattle.au_acting.specs.Safe.{IsSafe}
use Rattle.au_acting.proofs.ValueLemmas.{drops, drops_writers}
use Rattle.au_safe_acts.specs.Stores.{memory_of, told_of}
use Rattle.au_safe_acts.specs.Frames.{Frame, hold_at, type_at}
use Rattle.au_meaning.specs.Worlds.{World}
use Rattle.au_safe_acts.proofs.PrintLemmas.{plain_gone}
use Rattle.au_safe_acts.proofs.ExclusiveLemmas.{is_exclusive}
use Rattle.au_safe_acts.proofs.SoundLemmas.{number_is, sound_plain, told_well, truth_is}
use Rattle.au_safe_acts.specs.Good.{lying_in}
use Rattle.au_safe_steps.specs.Coming.{DropsWell, NumbersAreTold, NumbersGoOn, PlainsComeWell, PlainsDropWell}
use Rattle.au_safe_steps.specs.Coming.{ReordersWell, TellsWell, TruthsAreTold}
use Rattle.au_safe_steps.proofs.OrderLemmas.{alike_order, alike_safe}

left_true : (a b : Bool) → (a && b) ≡ true → a ≡ true
left_true true b h = refl
left_true false b h = absurd cc

pub numbers_go_on : NumbersGoOn
numbers_go_on kind z = (
  λ within. (refl, left_true (int_le (least_of kind) z) (int_le z (greatest_of kind)) within),
  λ plain. (refl, after (least_of kind) z plain.1),
)
  where
    after : (least z : ℤ) → int_le least z ≡ true → int_le least (z +ℤ pos 1) ≡ true
    after least z below = grind (arith, ints)

module _ (types : Types) (owner : ClosedType → Option (List ℕ)) (acts : List Act) (fs : List Frame)
    (sizes : List ℕ) (under : Made) (w : World) where
  pub tells_well : TellsWell types owner acts fs sizes under w
  tells_well state = (
    told_well ClosedType types owner acts (hold_at fs) (type_at fs) under (lying_in w) sizes w.store state,
    is_exclusive types owner acts fs sizes under w state,
  )

  pub plains_come_well : PlainsComeWell types owner acts fs sizes under w
  plains_come_well v t plain state =
      sound_plain ClosedType types owner acts (hold_at fs) (type_at fs) under (lying_in w) sizes w.store v t plain state

  pub reorders_well : ReordersWell types owner acts fs sizes under w
  reorders_well vs ws order state = record {
    keeps = state.keeps;
    sized = state.sized;
    safe = alike_safe ClosedType types owner acts (hold_at fs) (type_at fs) (memory_of w.store)
        (told_of (lying_in w) w.store) (onto vs under) (onto ws under)
        (λ s. alike_order types s (memory_of w.store) ws vs under order) state.safe;
  }

  pub plains_drop_well : PlainsDropWell types owner acts fs sizes under w
  plains_drop_well typed v t basic state =
      plain_gone ClosedType types owner acts (hold_at fs) (type_at fs) under (lying_in w) sizes w.store typed v t basic state

  pub truths_are_told : TruthsAreTold types owner acts fs sizes under w
  truths_are_told typed v state =
      let gone = plains_drop_well typed v truth tt state in
      let is = truth_is v gone.0 in
      (is.0, is.1, gone.1)

  pub drops_well : DropsWell types owner acts fs sizes under w
  drops_well typed v t (inl free) state = record {
    keeps = state.keeps;
    sized = state.sized;
    safe = drops ClosedType types owner acts (hold_at fs) (type_at fs) under (memory_of w.store)
        (told_of (lying_in w) w.store) typed.lawful v t free state.safe;
  }
  drops_well typed v t (inr writes) state = record {
    keeps = state.keeps;
    sized = state.sized;
    safe = drops_writers ClosedType types owner acts (hold_at fs) (type_at fs) under (memory_of w.store)
        (told_of (lying_in w) w.store) typed.forms v writes.0 writes.1
        (subst (λ (u : Meaning). IsSafe types owner acts (hold_at fs) (type_at fs) ((v, u) ∷ under) (memory_of w.store)
        (told_of (lying_in w) w.store)) writes.2 state.safe);
  }

module _ (types : Types) (owner : ClosedType → Option (List ℕ)) (acts : List Act) (fs : List Frame)
    (sizes : List ℕ) (under : Made) (w : World) where
  pub numbers_are_told : NumbersAreTold types owner acts fs sizes under w
  numbers_are_told typed a b kind state =
      let second = plains_drop_well types owner acts fs sizes ((a, integer kind) ∷ under) w typed b (integer kind) tt
      state in
      let first = plains_drop_well types owner acts fs sizes under w typed a (integer kind) tt second.1 in
      let last = number_is b kind second.0 in
      let one = number_is a kind first.0 in
      (one.0, last.0, one.1, last.1, one.2, first.1)
