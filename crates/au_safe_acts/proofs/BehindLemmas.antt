-- What stands behind the reference in a name.
use Rattle.std.proofs.Common.{◌≡◌, ℕ, List, [], ◌∷◌, length, Option, Some, sym, ap, subst, ◌∙◌}
use Rattle.std.specs.Prelude.{None}
use Rattle.au_effects.specs.Parts.{along, part}
use Rattle.au_effects.specs.References.{place_along, reference_along, reference_at, reference_in}
use Rattle.au_effects.specs.Values.{Place, name_of, reference}
use Rattle.au_effects.specs.Worlds.{tells, used}
use Rattle.au_places.specs.Memories.{Memory, held_at, written}
use Rattle.au_running_types.specs.Running.{token}
use Rattle.au_types.specs.Types as types'
use Rattle.au_types.specs.Types.{Meaning}
use Rattle.au_type_texts.specs.Types.{ClosedType}
use Rattle.au_memory.specs.Forests.{Made}
use Rattle.au_memory.specs.Loans.{Types}
use Rattle.au_lending.specs.Laws.{IsReadable}
use Rattle.au_borrows.specs.Orders.{Act}
use Rattle.au_borrows.specs.Told.{Told, with_use}
use Rattle.au_frames.specs.Safe.{IsSafe}
use Rattle.au_frames.proofs.NameLemmas as names
use Rattle.au_frames.proofs.ReaderLemmas as readers
use Rattle.au_agreeing.specs.Stores.{memory_of, told_of}
use Rattle.au_agreeing.proofs.StoreLemmas.{place_written}
use Rattle.au_agreeing.proofs.ToldLemmas.{used_told}
use Rattle.au_frames.specs.Frames.{Frame, hold_at, type_at}
use Rattle.au_frames.proofs.FrameLemmas.{own_hold, own_type}
use Rattle.au_meaning.specs.Acts as meaning
use Rattle.au_meaning.specs.Acts.{frame_in, in_store, puts, reference_held, stored}
use Rattle.au_meaning.specs.Ticks.{follows, found_in, needing, pure}
use Rattle.au_meaning.specs.Worlds.{Value, World}
use Rattle.au_sound_calls.proofs.SoundLemmas.{sound_used, told_memory}
use Rattle.au_safe_acts.specs.Behind.{ReadersReadWell, WritersPutWell, WritersReadWell}
use Rattle.au_safe_acts.specs.Good.{Good, IsIn, lying_in}
use Rattle.au_safe_acts.proofs.GoodLemmas.{frame_is}

-- what stands at the beginning of a place is there
pub begins_there : (o : Option Value) (v : Value) → along o (part []) ≡ Some v → o ≡ Some v
begins_there None v h = absurd cc
begins_there (Some one) v h = h

module _ (types : Types) (owner : ClosedType → Option (List ℕ)) (acts : List Act) (f : Frame) (fs : List Frame)
    (sizes : List ℕ) (size : ℕ) (under : Made) (w : World) (ticks : ℕ) where
  abbrev k : ℕ
  k = length fs

  abbrev m : Memory (List ℕ)
  m = memory_of w.store

  abbrev u : Told ClosedType
  u = told_of (lying_in w) w.store

  -- the reference that a name holds
  pub held_is : (x b : ℕ) (to : Place) → frame_in w ≡ k → m.at (name_of k x) ≡ Some (reference b to)
      → reference_held x w ≡ Some (b, to)
  held_is x b to frame there =
      subst (λ n. reference_at n x w.store ≡ Some (b, to)) (sym frame) (ap (λ o. along o reference_in) there)

  -- what stands at the end of a path behind it is copied
  reads_there : (x : ℕ) (path : List ℕ) (b : ℕ) (to : Place) (v : Value) (t : Meaning)
      → (state : IsIn types owner acts (f ∷ fs) sizes under w) → frame_in w ≡ k
      → m.at (name_of k x) ≡ Some (reference b to) → held_at m (place_along to path) ≡ Some v
      → IsSafe types owner acts (hold_at (f ∷ fs)) (type_at (f ∷ fs)) ((v, t) ∷ under) m (with_use b u)
      → Good owner (λ (one : Value) n. IsIn types owner acts (f ∷ fs) sizes ((one, t) ∷ under) n)
      (follows (meaning.refers x path w ticks) meaning.reads)
  unfolding follows
  reads_there x path b to v t state frame there stands safe =
      let last = sound_used ClosedType types owner acts (hold_at (f ∷ fs)) (type_at (f ∷ fs)) ((v, t) ∷ under)
      (lying_in w) sizes w.store b state.keeps state.sized safe in
      subst (λ o. Good owner (λ (one : Value) n. IsIn types owner acts (f ∷ fs) sizes ((one, t) ∷ under) n)
      (follows (needing (along o (λ one. Some (reference_along one path))) pure w ticks) meaning.reads))
      (sym (held_is x b to frame there))
      (subst (λ o. Good owner (λ (one : Value) n. IsIn types owner acts (f ∷ fs) sizes ((one, t) ∷ under) n)
      (found_in (stored (along o (λ value. Some (value, tells (used b) w.store))) w) w ticks)) (sym stands) last)

  pub writers_read_well : WritersReadWell types owner acts f fs sizes size under w ticks
  writers_read_well typed running x path t s z is kind on leads free state =
      let frame = frame_is sizes fs size w running state.sized in
      let done = names.looks_behind ClosedType types owner acts (hold_at (f ∷ fs)) (type_at (f ∷ fs)) under m u typed.forms
      typed.cases typed.lawful k x (subst IsReadable (sym (own_hold f fs x)) is) t z (own_type f fs x ∙ kind) on path s
      leads free state.safe in
      reads_there x path done.0 done.1 done.2 s state frame done.3 done.4 done.5

  pub readers_read_well : ReadersReadWell types owner acts f fs sizes size under w ticks
  readers_read_well typed running x path t s z is kind copy on leads free state =
      let frame = frame_is sizes fs size w running state.sized in
      let seen = names.looks ClosedType types owner acts (hold_at (f ∷ fs)) (type_at (f ∷ fs)) under m u typed.forms
      typed.cases typed.lawful k x (subst IsReadable (sym (own_hold f fs x)) is) [] (types'.reads t (token z))
      (own_type f fs x ∙ kind) copy state.safe in
      let done = readers.copies ClosedType types owner acts (hold_at (f ∷ fs)) (type_at (f ∷ fs)) under m u typed.forms
      typed.cases typed.lawful seen.0 t z path s leads free on seen.2 in
      let there = begins_there (m.at (name_of k x)) seen.0 seen.1 ∙ ap Some done.3 in
      reads_there x path done.0 done.1 done.2 s state frame there done.4 done.5

module _ (types : Types) (owner : ClosedType → Option (List ℕ)) (acts : List Act) (f : Frame) (fs : List Frame)
    (sizes : List ℕ) (size : ℕ) (under : Made) (w : World) (ticks : ℕ) where
  pub writers_put_well : WritersPutWell types owner acts f fs sizes size under w ticks
  unfolding follows
  writers_put_well typed running x path v t s z is kind on leads free state =
      let frame = frame_is sizes fs size w running state.sized in
      let memory = memory_of w.store in
      let told = told_of (lying_in w) w.store in
      let done = names.puts_behind ClosedType types owner acts (hold_at (f ∷ fs)) (type_at (f ∷ fs)) under memory told
      typed.forms typed.cases typed.lawful (length fs) x (subst IsReadable (sym (own_hold f fs x)) is) t z
      (own_type f fs x ∙ kind) on path v s leads free state.safe in
      let b = done.0 in
      let place = place_along done.1 path in
      let one = tells (used b) w.store in
      let before = subst (λ n. held_at n place ≡ Some done.2) (sym (told_memory (used b) w.store)) done.4 in
      let there = place_written one place v done.2 before in
      let last : IsIn types owner acts (f ∷ fs) sizes under (in_store there.0 w) = record {
        keeps = there.4 ∙ state.keeps;
        sized = there.5 ∙ state.sized;
        safe = subst (λ n. IsSafe types owner acts (hold_at (f ∷ fs)) (type_at (f ∷ fs)) under n
            (told_of (lying_in w) there.0))
            (sym (there.2 ∙ ap (λ n. written place v n) (told_memory (used b) w.store)))
            (subst (λ o. IsSafe types owner acts (hold_at (f ∷ fs)) (type_at (f ∷ fs)) under
            (written place v memory) o)
            (sym (there.3 (lying_in w) ∙ used_told w.store state.keeps (lying_in w) b)) done.5);
      } in
      let held = held_is types owner acts f fs sizes size under w ticks x b done.1 frame done.3 in
      subst (λ o. Good owner (λ (old : Value) n. IsIn types owner acts (f ∷ fs) sizes under n)
      (follows (needing (along o (λ p. Some (reference_along p path))) pure w ticks) (λ p. puts p v))) (sym held)
      (subst (λ o. Good owner (λ (old : Value) n. IsIn types owner acts (f ∷ fs) sizes under n)
      (found_in (stored o w) w ticks)) (sym there.1) last)
