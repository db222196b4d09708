-- Names of the running frame are filled in a row, and emptied at the end of a block.
use Rattle.std.proofs.Common.{◌≡◌, inl, ℕ, zero, suc, ◌+◌, ◌<◌, ◌≤◌, ◌==◌, Bool, true, false, List, [], ◌∷◌}
use Rattle.std.proofs.Common.{length, Option, Some, refl, sym, ap, subst, ◌∙◌, arith, if◌then◌else◌}
use Rattle.std.specs.Prelude.{None}
use Rattle.std.proofs.lemmas.Bool.{ne_eqb}
use Rattle.au_types.specs.Types.{Meaning}
use Rattle.au_type_texts.specs.Types.{ClosedType}
use Rattle.au_memory.specs.Forests.{Made, empty, ready}
use Rattle.au_memory.specs.Loans.{Types}
use Rattle.au_lending.specs.Records.{onto}
use Rattle.au_safe_acts.specs.Orders.{Act}
use Rattle.au_safe_acts.specs.Stores.{HasName, memory_of, told_of}
use Rattle.au_safe_acts.specs.Frames.{Frame, IsLoose, filled, hold_at, standing, type_at}
use Rattle.au_safe_acts.proofs.ReturnLemmas.{forgets}
use Rattle.au_meaning.specs.Acts.{emptied, with_value, with_values}
use Rattle.au_meaning.specs.Worlds.{Value, World}
use Rattle.au_safe_acts.specs.Sound.{AreTyped}
use Rattle.au_safe_acts.specs.Good.{IsIn, IsRunning, lying_in}
use Rattle.au_safe_acts.specs.Making.{values_of}
use Rattle.au_safe_acts.proofs.GoodLemmas.{frame_is, has_room}
use Rattle.au_safe_acts.proofs.NameLemmas.{holds_well, set_name}
use Rattle.au_safe_steps.specs.Filling.{EmptiesWell, FillsWell, emptied_from, filled_from}
use Rattle.au_safe_steps.proofs.OrderLemmas.{alike_safe, alike_up}

module _ (types : Types) (owner : ClosedType → Option (List ℕ)) (acts : List Act) (fs : List Frame)
    (sizes : List ℕ) (size : ℕ) (under : Made) where
  -- ---- names are filled

  abbrev AreEmpty : Frame → ℕ → ℕ → Type 0
  AreEmpty f first count = (x : ℕ) → first ≤ x → x < first + count → f.hold x ≡ empty

  empty_after : (first count : ℕ) (v : Value × Meaning) (f : Frame) → AreEmpty f first (suc count)
      → AreEmpty (filled first v.1 f) (suc first) count
  empty_after first count v f none x above below =
      ap (λ (b : Bool). if b then ready else f.hold x) (ne_eqb first x (λ same. omega arith))
      ∙ none x (omega arith) (omega arith)

  fills_from : (vs : Made) (f : Frame) (first : ℕ) (w : World) → IsRunning sizes fs size → first + length vs ≤ size
      → AreEmpty f first (length vs) → IsIn types owner acts (f ∷ fs) sizes (onto vs under) w
      → IsIn types owner acts (filled_from first vs f ∷ fs) sizes under (with_values first (values_of vs) w)
  fills_from [] f first w running room none state = state
  fills_from (v ∷ vs) f first w running room none state =
      let up : IsIn types owner acts (f ∷ fs) sizes (v ∷ onto vs under) w = record {
        keeps = state.keeps;
        sized = state.sized;
        safe = alike_safe ClosedType types owner acts (hold_at (f ∷ fs)) (type_at (f ∷ fs)) (memory_of w.store)
            (told_of (lying_in w) w.store) (onto vs (v ∷ under)) (v ∷ onto vs under)
            (λ s. alike_up types s (memory_of w.store) vs v under) state.safe;
      } in
      let one : IsIn types owner acts (filled first v.1 f ∷ fs) sizes (onto vs under)
      (with_value first (Some v.0) w) =
      holds_well types owner acts f fs sizes size (onto vs under) w 0 running first v.0 v.1 (omega arith)
      (none first (omega arith) (omega arith)) up in
      let next : first + 1 ≡ suc first = omega arith in
      subst (λ (n : ℕ). IsIn types owner acts (filled_from first (v ∷ vs) f ∷ fs) sizes under
      (with_values n (values_of vs) (with_value first (Some v.0) w))) (sym next)
      (fills_from vs (filled first v.1 f) (suc first) (with_value first (Some v.0) w) running (omega arith)
      (empty_after first (length vs) v f none) one)

  -- ---- names are emptied

  abbrev AreLoose : Frame → ℕ → ℕ → Type 0
  AreLoose f first count = (x : ℕ) → first ≤ x → x < first + count → IsLoose types (f.hold x) (f.type x)

  loose_after : (first count : ℕ) (f : Frame) → AreLoose f first (suc count)
      → AreLoose (standing first empty f) (suc first) count
  loose_after first count f loose x above below = by (first == x)
    where
      by : (b : Bool) → IsLoose types (if b then empty else f.hold x) (f.type x)
      by true = inl refl
      by false = loose x (omega arith) (omega arith)

  empties_from : AreTyped types → (count : ℕ) (f : Frame) (first : ℕ) (w : World) → IsRunning sizes fs size
      → first + count ≤ size → AreLoose f first count → IsIn types owner acts (f ∷ fs) sizes under w
      → IsIn types owner acts (emptied_from first count f ∷ fs) sizes under (emptied first count w)
  empties_from typed zero f first w running room loose state = state
  empties_from typed (suc count) f first w running room loose state =
      let frame = frame_is sizes fs size w running state.sized in
      let safe = forgets ClosedType types owner typed.forms typed.lawful acts fs under (told_of (lying_in w) w.store) f
      (memory_of w.store) first (loose first (omega arith) (omega arith)) state.safe in
      let has = subst (λ n. HasName w.store n first) (sym frame)
      (has_room sizes fs size w first running state.sized (omega arith)) in
      let one : IsIn types owner acts (standing first empty f ∷ fs) sizes under (with_value first None w) =
      set_name types owner acts f fs sizes size under w 0 (standing first empty f) under first None state.keeps
      state.sized frame has safe in
      let next : first + 1 ≡ suc first = omega arith in
      subst (λ (n : ℕ). IsIn types owner acts (emptied_from first (suc count) f ∷ fs) sizes under
      (emptied n count (with_value first None w))) (sym next)
      (empties_from typed count (standing first empty f) (suc first) (with_value first None w) running (omega arith)
      (loose_after first count f loose) one)

module _ (types : Types) (owner : ClosedType → Option (List ℕ)) (acts : List Act) (f : Frame) (fs : List Frame)
    (sizes : List ℕ) (size : ℕ) (under : Made) (w : World) where
  pub fills_well : FillsWell types owner acts f fs sizes size under w
  fills_well running first vs room none state =
      fills_from types owner acts fs sizes size under vs f first w running room none state

  pub empties_well : EmptiesWell types owner acts f fs sizes size under w
  empties_well typed running first count room loose state =
      empties_from types owner acts fs sizes size under typed count f first w running room loose state
