-- What the meaning does to names of the running frame.
use Rattle.std.proofs.Common.{◌≡◌, inr, ℕ, true, List, ◌∷◌, length, Option, Some, refl, sym, ap, subst, ◌∙◌}
use Rattle.std.specs.Prelude.{None}
use Rattle.au_effects.specs.Places.{at, name_at, name_set}
use Rattle.au_effects.specs.References.{name_along}
use Rattle.au_effects.specs.Values.{name_of}
use Rattle.au_places.specs.Memories.{Memory, held_at, with_base, written}
use Rattle.au_types.specs.Types.{Meaning}
use Rattle.au_type_texts.specs.Types.{ClosedType}
use Rattle.au_memory.specs.Forests.{Hold, Made, empty, ready}
use Rattle.au_memory.specs.Loans.{Types}
use Rattle.au_lending.specs.Holding.{with_hold, with_name}
use Rattle.au_lending.specs.Laws.{IsReadable}
use Rattle.au_lending.specs.Seeing.{LeadsOn}
use Rattle.au_borrows.specs.Orders.{Act}
use Rattle.au_borrows.specs.Told.{Told}
use Rattle.au_frames.specs.Safe.{IsSafe}
use Rattle.au_frames.proofs.NameLemmas as names
use Rattle.au_frames.proofs.StartLemmas.{agrees}
use Rattle.au_agreeing.specs.Stores.{HasName, memory_of, sizes_of, told_of}
use Rattle.au_agreeing.proofs.StoreLemmas.{has_name, name_memory, name_sizes, place_written}
use Rattle.au_frames.specs.Frames.{Frame, filled, hold_at, standing, type_at}
use Rattle.au_frames.proofs.FrameLemmas.{hold_step, own_hold, own_type, type_step}
use Rattle.au_meaning.specs.Acts.{frame_in, in_store, place_of, stored, with_value}
use Rattle.au_meaning.specs.Ticks.{does, follows, found_in, needing, pure, ◌>>◌}
use Rattle.au_meaning.specs.Worlds.{Value, World}
use Rattle.au_safe_acts.specs.Good.{Good, IsIn, lying_in}
use Rattle.au_safe_acts.specs.Naming.{HoldsWell, LooksWell, MovesWell, SetsWell}
use Rattle.au_safe_acts.proofs.GoodLemmas.{frame_is, good_needing, has_room}

-- ---- what is said of a name of the newest frame is said of the frame

module _ (types : Types) (owner : ClosedType → Option (List ℕ)) (acts : List Act) (f : Frame) (fs : List Frame)
    (made : Made) (m : Memory (List ℕ)) (u : Told ClosedType) (x : ℕ) where
  pub stands : (h : Hold)
      → IsSafe types owner acts (with_hold (length fs) x h (hold_at (f ∷ fs))) (type_at (f ∷ fs)) made m u
      → IsSafe types owner acts (hold_at (standing x h f ∷ fs)) (type_at (standing x h f ∷ fs)) made m u
  stands h safe =
      agrees ClosedType types owner acts (with_hold (length fs) x h (hold_at (f ∷ fs))) (type_at (f ∷ fs)) made m u
      (hold_at (standing x h f ∷ fs)) (type_at (standing x h f ∷ fs)) m (hold_step f fs x h) (λ k y. inr refl)
      (λ base. refl) (λ i. refl) safe

  pub fills : (t : Meaning)
      → IsSafe types owner acts (with_hold (length fs) x ready (hold_at (f ∷ fs)))
      (with_name (length fs) x t (type_at (f ∷ fs))) made m u
      → IsSafe types owner acts (hold_at (filled x t f ∷ fs)) (type_at (filled x t f ∷ fs)) made m u
  fills t safe =
      agrees ClosedType types owner acts (with_hold (length fs) x ready (hold_at (f ∷ fs)))
      (with_name (length fs) x t (type_at (f ∷ fs))) made m u (hold_at (filled x t f ∷ fs))
      (type_at (filled x t f ∷ fs)) m (hold_step f fs x ready) (λ k y. inr (type_step f fs x t k y)) (λ base. refl)
      (λ i. refl) safe

module _ (types : Types) (owner : ClosedType → Option (List ℕ)) (acts : List Act) (f : Frame) (fs : List Frame)
    (sizes : List ℕ) (size : ℕ) (under : Made) (w : World) (ticks : ℕ) where
  abbrev k : ℕ
  k = length fs

  abbrev m : Memory (List ℕ)
  m = memory_of w.store

  abbrev u : Told ClosedType
  u = told_of (lying_in w) w.store

  -- a world in which a name of the running frame was set
  pub set_name : (g : Frame) (made : Made) (x : ℕ) (o : Option Value) → w.store.keeps ≡ true
      → sizes_of w.store ≡ sizes → frame_in w ≡ k → HasName w.store (frame_in w) x
      → IsSafe types owner acts (hold_at (g ∷ fs)) (type_at (g ∷ fs)) made (with_base (name_of k x) o m) u
      → IsIn types owner acts (g ∷ fs) sizes made (with_value x o w)
  set_name g made x o keeps sized frame has safe =
      let memory : memory_of (name_set (frame_in w) x o w.store) ≡ with_base (name_of k x) o m =
      name_memory w.store (frame_in w) x o has ∙ ap (λ n. with_base (name_of n x) o m) frame in
      record {
        keeps = keeps;
        sized = name_sizes w.store.frames (frame_in w) x o ∙ sized;
        safe = subst (λ n. IsSafe types owner acts (hold_at (g ∷ fs)) (type_at (g ∷ fs)) made n u) (sym memory) safe;
      }

  pub looks_well : LooksWell types owner acts f fs sizes size under w ticks
  looks_well forms cases lawful running x path t is leads free state =
      let frame = frame_is sizes fs size w running state.sized in
      let done = names.looks ClosedType types owner acts (hold_at (f ∷ fs)) (type_at (f ∷ fs)) under m u forms cases
      lawful k x (subst IsReadable (sym (own_hold f fs x)) is) path t
      (subst (λ s. LeadsOn types s path t) (sym (own_type f fs x)) leads) free state.safe in
      let there : at (name_along (frame_in w) x path) w.store ≡ Some done.0 =
      subst (λ n. at (name_along n x path) w.store ≡ Some done.0) (sym frame) done.1 in
      let last : IsIn types owner acts (f ∷ fs) sizes ((done.0, t) ∷ under) w = record {
        keeps = state.keeps;
        sized = state.sized;
        safe = done.2;
      } in
      good_needing owner _ (λ (v : Value) n. IsIn types owner acts (f ∷ fs) sizes ((v, t) ∷ under) n)
      (at (place_of x path w) w.store) done.0 pure w ticks there last

  pub moves_well : MovesWell types owner acts f fs sizes size under w ticks
  unfolding follows
  moves_well running x is state =
      let frame = frame_is sizes fs size w running state.sized in
      let done = names.mentions ClosedType types owner acts (hold_at (f ∷ fs)) (type_at (f ∷ fs)) under m u k x
      (own_hold f fs x ∙ is) state.safe in
      let there : name_at (frame_in w) x w.store ≡ Some done.0 =
      subst (λ n. name_at n x w.store ≡ Some done.0) (sym frame) done.1 in
      let typed = subst (λ t. IsSafe types owner acts (with_hold k x empty (hold_at (f ∷ fs))) (type_at (f ∷ fs))
      ((done.0, t) ∷ under) (with_base (name_of k x) None m) u) (own_type f fs x) done.2 in
      let safe = stands types owner acts f fs ((done.0, f.type x) ∷ under) (with_base (name_of k x) None m) u x empty
      typed in
      let last = set_name (standing x empty f) ((done.0, f.type x) ∷ under) x None state.keeps state.sized frame
      (has_name w.store (frame_in w) x done.0 there) safe in
      subst (λ o. Good owner
      (λ (v : Value) n. IsIn types owner acts (standing x empty f ∷ fs) sizes ((v, f.type x) ∷ under) n)
      (follows (needing o pure w ticks) (λ value. does (with_value x None) >> pure value))) (sym there) last

  pub holds_well : HoldsWell types owner acts f fs sizes size under w ticks
  holds_well running x v t less is state =
      let frame = frame_is sizes fs size w running state.sized in
      let done = names.fills ClosedType types owner acts (hold_at (f ∷ fs)) (type_at (f ∷ fs)) under m u k x v t
      (own_hold f fs x ∙ is) state.safe in
      let safe = fills types owner acts f fs under (with_base (name_of k x) (Some v) m) u x t done in
      set_name (filled x t f) under x (Some v) state.keeps state.sized frame
      (subst (λ n. HasName w.store n x) (sym frame) (has_room sizes fs size w x running state.sized less)) safe

  pub sets_well : SetsWell types owner acts f fs sizes size under w ticks
  sets_well forms cases lawful running x path v t is leads free state =
      let frame = frame_is sizes fs size w running state.sized in
      let done = names.puts ClosedType types owner acts (hold_at (f ∷ fs)) (type_at (f ∷ fs)) under m u forms cases
      lawful k x (own_hold f fs x ∙ is) path v t
      (subst (λ s. LeadsOn types s path t) (sym (own_type f fs x)) leads) free state.safe in
      let place = name_along (frame_in w) x path in
      let before : held_at m place ≡ Some done.0 =
      subst (λ n. held_at m (name_along n x path) ≡ Some done.0) (sym frame) done.1 in
      let there = place_written w.store place v done.0 before in
      let memory : memory_of there.0 ≡ written (name_along k x path) v m =
      there.2 ∙ ap (λ n. written (name_along n x path) v m) frame in
      let last : IsIn types owner acts (f ∷ fs) sizes under (in_store there.0 w) = record {
        keeps = there.4 ∙ state.keeps;
        sized = there.5 ∙ state.sized;
        safe = subst (λ n. IsSafe types owner acts (hold_at (f ∷ fs)) (type_at (f ∷ fs)) under n
            (told_of (lying_in w) there.0)) (sym memory)
            (subst (λ o. IsSafe types owner acts (hold_at (f ∷ fs)) (type_at (f ∷ fs)) under
            (written (name_along k x path) v m) o) (sym (there.3 (lying_in w))) done.2);
      } in
      subst (λ o. Good owner (λ (old : Value) n. IsIn types owner acts (f ∷ fs) sizes under n)
      (found_in (stored o w) w ticks)) (sym there.1) last
