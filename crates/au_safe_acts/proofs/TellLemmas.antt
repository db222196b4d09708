-- A `case` tells apart a value, or one behind a reference.
use Rattle.std.proofs.Common.{◌≡◌, ℕ, suc, ◌+◌, List, [], ◌∷◌, length, Option, Some, refl, sym, ap, subst, ◌∙◌}
use Rattle.std.proofs.Common.{arith}
use Rattle.std.specs.Prelude.{map}
use Rattle.au_effects.specs.Cases.{case_behind, fields_behind}
use Rattle.au_effects.specs.Parts.{along}
use Rattle.au_effects.specs.Places.{at}
use Rattle.au_effects.specs.Values.{Fields, Place, listed, made, reference}
use Rattle.au_effects.specs.Worlds.{tells, used}
use Rattle.au_places.specs.Places.{part_at}
use Rattle.au_running_types.specs.Running.{token}
use Rattle.au_types.specs.Types as types'
use Rattle.au_types.specs.Types.{Meaning}
use Rattle.au_type_texts.specs.Types.{ClosedType}
use Rattle.au_memory.specs.Forests.{Made}
use Rattle.au_memory.specs.Loans.{Types}
use Rattle.au_lending.specs.Parting.{with_parts}
use Rattle.au_lending.specs.Records.{onto, types_made}
use Rattle.au_borrows.specs.Orders.{Act}
use Rattle.au_frames.specs.Casing.{with_parts_seen}
use Rattle.au_frames.specs.Safe.{IsSafe}
use Rattle.au_borrows.specs.Told.{with_use}
use Rattle.au_frames.proofs.BehindLemmas as behind
use Rattle.au_frames.proofs.CasingLemmas as casing
use Rattle.au_frames.proofs.ValueLemmas as values
use Rattle.au_agreeing.specs.Stores.{memory_of, told_of}
use Rattle.au_frames.specs.Frames.{Frame, hold_at, type_at}
use Rattle.au_meaning.specs.Acts.{stored, tells_apart}
use Rattle.au_meaning.specs.Ticks.{found_in}
use Rattle.au_meaning.specs.Worlds.{Store, Value, World}
use Rattle.au_sound_calls.proofs.SoundLemmas.{sound_used}
use Rattle.au_safe_acts.specs.Good.{Good, IsIn, lying_in}
use Rattle.au_safe_acts.specs.Making.{values_of}
use Rattle.au_safe_acts.specs.Telling.{HasTold, TellsReadersWell, TellsValuesWell, TellsWritersWell}
use Rattle.au_safe_acts.proofs.MakeLemmas.{listed_are, spent}

-- ---- references to parts

-- references to parts, from a number on, of types that are those of the fields seen so
abbrev parts_made : (Meaning → Meaning) → ℕ → Place → ℕ → List Meaning → Made
parts_made through b to i [] = []
parts_made through b to i (t ∷ ts) = (reference b (part_at i to), through t) ∷ parts_made through b to (suc i) ts

parts_typed : (through : Meaning → Meaning) (b : ℕ) (to : Place) (i : ℕ) (ts : List Meaning)
    → types_made (parts_made through b to i ts) ≡ map through ts
parts_typed through b to i [] = refl
parts_typed through b to i (t ∷ ts) =
    ap (λ (rest : List Meaning). through t ∷ rest) (parts_typed through b to (suc i) ts)

parts_behind : (through : Meaning → Meaning) (b : ℕ) (to : Place) (i : ℕ) (ts : List Meaning)
    → fields_behind (b, to) i (length ts) ≡ values_of (parts_made through b to i ts)
parts_behind through b to i [] = refl
parts_behind through b to i (t ∷ ts) =
    let next : i + 1 ≡ suc i = omega arith in
    ap (λ (rest : List Value). reference b (part_at i to) ∷ rest)
    (ap (λ (n : ℕ). fields_behind (b, to) n (length ts)) next ∙ parts_behind through b to (suc i) ts)

onto_written : (b : ℕ) (to : Place) (z i : ℕ) (ts : List Meaning) (under : Made)
    → with_parts b to z i ts under ≡ onto (parts_made (λ u. types'.writes u (token z)) b to i ts) under
onto_written b to z i [] under = refl
onto_written b to z i (t ∷ ts) under =
    onto_written b to z (suc i) ts ((reference b (part_at i to), types'.writes t (token z)) ∷ under)

onto_read : (b : ℕ) (to : Place) (z i : ℕ) (ts : List Meaning) (under : Made)
    → with_parts_seen b to z i ts under ≡ onto (parts_made (λ u. types'.reads u (token z)) b to i ts) under
onto_read b to z i [] under = refl
onto_read b to z i (t ∷ ts) under =
    onto_read b to z (suc i) ts ((reference b (part_at i to), types'.reads t (token z)) ∷ under)

same_types : (vs : Made) → types_made vs ≡ map (λ u. u) (types_made vs)
same_types [] = refl
same_types (v ∷ vs) = ap (λ (rest : List Meaning). v.1 ∷ rest) (same_types vs)

module _ (types : Types) (owner : ClosedType → Option (List ℕ)) (acts : List Act) (fs : List Frame)
    (sizes : List ℕ) (under : Made) (w : World) (ticks : ℕ) where
  -- what is told apart
  abbrev Told : Meaning → (Meaning → Meaning) → ℕ × List Value → World → Type 0
  Told t through p n = HasTold types owner acts fs sizes under types t through p n

  pub tells_values_well : TellsValuesWell types owner acts fs sizes under w ticks
  tells_values_well typed v t tag of is state =
      let s = w.store in
      let done = values.opens_cases ClosedType types owner acts (hold_at fs) (type_at fs) under (memory_of s)
      (told_of (lying_in w) s) typed.forms typed.cases v t tag of is state.safe in
      let last = spent types owner acts fs sizes under w ticks (onto done.2 under) done.1 s state.keeps state.sized
      done.5 in
      subst (λ x. Good owner (Told t (λ u. u)) (tells_apart x w ticks)) (sym done.3)
      (types_made done.2, done.2, done.4, listed_are done.2, same_types done.2, last)

  -- one behind a reference whose borrow was used
  behind_told : (t : Meaning) (through : Meaning → Meaning) (r : Value) (b : ℕ) (to : Place) (tag : ℕ) (born : Option ℕ)
      (kinds : List Meaning) (parts : Fields (List ℕ)) → (made_of : Made)
      → IsIn types owner acts fs sizes made_of w → r ≡ reference b to → at to w.store ≡ Some (made tag born parts)
      → types.fields t tag ≡ Some kinds → length (listed parts) ≡ length kinds
      → IsSafe types owner acts (hold_at fs) (type_at fs) (onto (parts_made through b to 0 kinds) under)
      (memory_of w.store) (with_use b (told_of (lying_in w) w.store))
      → Good owner (Told t through) (tells_apart r w ticks)
  behind_told t through r b to tag born kinds parts made_of state leads there fields many safe =
      let s = w.store in
      let last = sound_used ClosedType types owner acts (hold_at fs) (type_at fs)
      (onto (parts_made through b to 0 kinds) under) (lying_in w) sizes s b state.keeps state.sized safe in
      let values : fields_behind (b, to) 0 (length (listed parts)) ≡ values_of (parts_made through b to 0 kinds) =
      ap (λ (n : ℕ). fields_behind (b, to) 0 n) many ∙ parts_behind through b to 0 kinds in
      subst (λ x. Good owner (Told t through) (tells_apart x w ticks)) (sym leads)
      (subst (λ o. Good owner (Told t through)
      (found_in (stored (along (along {A = Value} {B = Value × Store} o (λ value. Some (value, tells (used b) s)))
      (λ pair. along {A = ℕ × List Value} {B = (ℕ × List Value) × Store} (case_behind (b, to) pair.0)
      (λ told. Some (told, pair.1)))) w) w ticks)) (sym there)
      (kinds, parts_made through b to 0 kinds, fields, values, parts_typed through b to 0 kinds, last))

  pub tells_writers_well : TellsWritersWell types owner acts fs sizes under w ticks
  tells_writers_well typed r t z tag of is on state =
      let s = w.store in
      let done = behind.lends_parts ClosedType types owner acts (hold_at fs) (type_at fs) under (memory_of s)
      (told_of (lying_in w) s) typed.forms typed.cases r t z tag of is on state.safe in
      let many = casing.has_parts ClosedType types owner acts (hold_at fs) (type_at fs) under (memory_of s)
      (told_of (lying_in w) s) typed.forms typed.cases r t z tag of is on state.safe done.0 done.1 done.2 done.3 done.5
      done.4 done.6 done.7 done.8 in
      behind_told t (λ u. types'.writes u (token z)) r done.0 done.1 done.2 done.3 done.4 done.5
      ((r, types'.writes t (token z)) ∷ under) state done.6 done.7 done.8 many
      (subst (λ made_of. IsSafe types owner acts (hold_at fs) (type_at fs) made_of (memory_of s)
      (with_use done.0 (told_of (lying_in w) s))) (onto_written done.0 done.1 z 0 done.4 under) done.9)

  pub tells_readers_well : TellsReadersWell types owner acts fs sizes under w ticks
  tells_readers_well typed r t z tag of is on state =
      let s = w.store in
      let done = casing.sees_parts ClosedType types owner acts (hold_at fs) (type_at fs) under (memory_of s)
      (told_of (lying_in w) s) typed.forms typed.cases r t z tag of is on state.safe in
      behind_told t (λ u. types'.reads u (token z)) r done.0 done.1 done.2 done.3 done.4 done.5
      ((r, types'.reads t (token z)) ∷ under) state done.6 done.7 done.8 done.9
      (subst (λ made_of. IsSafe types owner acts (hold_at fs) (type_at fs) made_of (memory_of s)
      (with_use done.0 (told_of (lying_in w) s))) (onto_read done.0 done.1 z 0 done.4 under) done.10)
