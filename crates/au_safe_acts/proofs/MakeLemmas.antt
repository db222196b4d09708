-- Values of cases are made and taken apart, and what read references lead to is copied.
use Rattle.std.proofs.Common.{◌≡◌, ℕ, true, List, [], ◌∷◌, length, Option, Some, refl, sym, ap, subst}
use Rattle.std.proofs.Common.{append-nil}
use Rattle.std.specs.Prelude.{None}
use Rattle.au_effects.specs.Parts.{along}
use Rattle.au_effects.specs.Places.{at}
use Rattle.au_effects.specs.References.{reference_in}
use Rattle.au_effects.specs.Values.{Fields, field_then, fields_of, listed, made}
use Rattle.au_effects.specs.Worlds.{bears, consumed, nothing, spends, tells, used}
use Rattle.au_types.specs.Types.{Meaning}
use Rattle.au_type_texts.specs.Types.{ClosedType}
use Rattle.au_memory.specs.Forests.{Made}
use Rattle.au_memory.specs.Loans.{Types}
use Rattle.au_lending.specs.Records.{fields_made, onto, types_made}
use Rattle.au_borrows.specs.Orders.{Act}
use Rattle.au_borrows.specs.Told.{with_birth}
use Rattle.au_frames.specs.Safe.{IsSafe}
use Rattle.au_frames.specs.Valuing.{with_spent}
use Rattle.au_frames.proofs.ReaderLemmas as readers
use Rattle.au_frames.proofs.ValueLemmas as values
use Rattle.au_agreeing.specs.Stores.{memory_of, sizes_of, told_of}
use Rattle.au_agreeing.proofs.StoreLemmas.{births_begin}
use Rattle.au_agreeing.proofs.ToldLemmas.{births_told}
use Rattle.au_frames.specs.Frames.{Frame, hold_at, type_at}
use Rattle.au_meaning.specs.Acts as meaning
use Rattle.au_meaning.specs.Acts.{in_store, stored}
use Rattle.au_meaning.specs.Ticks.{follows, found_in, needing}
use Rattle.au_meaning.specs.Worlds.{Store, Value, World}
use Rattle.au_sound_calls.proofs.SoundLemmas.{home_fits, sound_as, sound_used, told_memory}
use Rattle.au_safe_acts.specs.Good.{Good, IsIn, lying_in}
use Rattle.au_safe_acts.specs.Making.{ApartWell, CopiesWell, MakesFreeWell, MakesLinearWell, values_of}

-- ---- fields

fields_are : (vs : Made) → fields_of (values_of vs) ≡ fields_made vs
fields_are [] = refl
fields_are (v ∷ vs) = ap (λ (rest : Fields (List ℕ)). field_then v.0 rest) (fields_are vs)

pub listed_are : (vs : Made) → listed (fields_made vs) ≡ values_of vs
listed_are [] = refl
listed_are (v ∷ vs) = ap (λ (rest : List Value). v.0 ∷ rest) (listed_are vs)

module _ (types : Types) (owner : ClosedType → Option (List ℕ)) (acts : List Act) (fs : List Frame)
    (sizes : List ℕ) (under : Made) (w : World) (ticks : ℕ) where
  -- a value of a case under way
  case_in : (vs : Made) (t : Meaning) (tag : ℕ) (born : Option ℕ) (n : World)
      → IsIn types owner acts fs sizes ((made tag born (fields_made vs), t) ∷ under) n
      → IsIn types owner acts fs sizes ((made tag born (fields_of (values_of vs)), t) ∷ under) n
  case_in vs t tag born n state =
      subst (λ (all : Fields (List ℕ)). IsIn types owner acts fs sizes ((made tag born all, t) ∷ under) n)
      (sym (fields_are vs)) state

  pub makes_free_well : MakesFreeWell types owner acts fs sizes under w ticks
  makes_free_well vs t of tag home fields free state =
      case_in vs t tag None w (record {
        keeps = state.keeps;
        sized = state.sized;
        safe = values.makes_free ClosedType types owner acts (hold_at fs) (type_at fs) under (memory_of w.store)
            (told_of (lying_in w) w.store) vs t tag fields free state.safe;
      })

  pub makes_linear_well : MakesLinearWell types owner acts fs sizes under w ticks
  unfolding follows
  makes_linear_well vs t of tag home fields linear own state =
      let s = w.store in
      let id = length s.births in
      let safe = values.makes_linear ClosedType types owner acts (hold_at fs) (type_at fs) under (memory_of s)
      (told_of (lying_in w) s) vs t tag of home fields linear (home_fits owner id of home own) state.safe in
      case_in vs t tag (Some id) (in_store (bears of home nothing s) w)
      (sound_as ClosedType types owner acts (hold_at fs) (type_at fs) ((made tag (Some id) (fields_made vs), t) ∷ under)
      (lying_in w) sizes (bears of home nothing s) (memory_of s) (with_birth of home (told_of (lying_in w) s)) state.keeps
      state.sized (births_begin s of home).1 ((births_told s state.keeps (lying_in w)).0 of home) safe)

  -- a value was consumed that may have a birth
  pub spent : (made_of : Made) (born : Option ℕ) (s : Store) → s.keeps ≡ true → sizes_of s ≡ sizes
      → IsSafe types owner acts (hold_at fs) (type_at fs) made_of (memory_of s)
      (with_spent born (told_of (lying_in w) s))
      → IsIn types owner acts fs sizes made_of (in_store (spends born s) w)
  spent made_of None s keeps sized safe = record { keeps = keeps; sized = sized; safe = safe }
  spent made_of (Some i) s keeps sized safe =
      sound_as ClosedType types owner acts (hold_at fs) (type_at fs) made_of (lying_in w) sizes (spends (Some i) s)
      (memory_of s) (with_spent (Some i) (told_of (lying_in w) s)) keeps sized (told_memory (consumed i) s)
      ((births_told s keeps (lying_in w)).4 i) safe

  pub apart_well : ApartWell types owner acts fs sizes under w ticks
  unfolding follows
  apart_well typed v t tag of is state =
      let s = w.store in
      let done = values.opens_cases ClosedType types owner acts (hold_at fs) (type_at fs) under (memory_of s)
      (told_of (lying_in w) s) typed.forms typed.cases v t tag of is state.safe in
      let last = spent (onto done.2 under) done.1 s state.keeps state.sized done.5 in
      subst (λ x. Good owner
      (λ (p : ℕ × List Value) n.
      (parts : Made) × (p.1 ≡ values_of parts) × (types.fields t p.0 ≡ Some (types_made parts))
      × IsIn types owner acts fs sizes (onto parts under) n) (meaning.apart x w ticks)) (sym done.3)
      (done.2, listed_are done.2, done.4, last)

  pub copies_well : CopiesWell types owner acts fs sizes under w ticks
  copies_well typed r t z free on state =
      let s = w.store in
      let done = readers.copies ClosedType types owner acts (hold_at fs) (type_at fs) under (memory_of s)
      (told_of (lying_in w) s) typed.forms typed.cases typed.lawful r t z [] t refl free on state.safe in
      let there : at done.1 s ≡ Some done.2 =
      subst (λ (p : List ℕ). at (record { base = done.1.base; path = p }) s ≡ Some done.2) (append-nil done.1.path)
      done.4 in
      let last = sound_used ClosedType types owner acts (hold_at fs) (type_at fs) ((done.2, t) ∷ under) (lying_in w) sizes
      s done.0 state.keeps state.sized done.5 in
      subst (λ x. Good owner (λ (v : Value) n. IsIn types owner acts fs sizes ((v, t) ∷ under) n)
      (needing (reference_in x) meaning.reads w ticks)) (sym done.3)
      (subst (λ o. Good owner (λ (v : Value) n. IsIn types owner acts fs sizes ((v, t) ∷ under) n)
      (found_in (stored (along o (λ value. Some (value, tells (used done.0) s))) w) w ticks)) (sym there) last)
