-- What is done with buffers.
use Rattle.std.proofs.Common.{◌≡◌, ℕ, ◌-◌, true, List, [], ◌∷◌, ◌++◌, length, take, Option, Some, refl, sym, ap, subst, ◌∙◌}
use Rattle.std.proofs.Common.{slice_get, pos}
use Rattle.std.specs.Prelude.{None, codes, slice_set}
use Rattle.au_base.specs.declared.kinds.IntKind.TheVariants.{Index}
use Rattle.au_shipped.specs.declared.prims.ShippedCall.TheVariants as prim
use Rattle.au_effects.specs.Answers.{Answer, gives}
use Rattle.au_effects.specs.Calls.{buffer_ended, buffer_in, buffer_use, element_copied, element_replaced, elements_in, given, last_taken}
use Rattle.au_effects.specs.Calls.{shipped, with_elements}
use Rattle.au_effects.specs.Parts.{along}
use Rattle.au_effects.specs.Places as places
use Rattle.au_effects.specs.Values.{Place, Value, buffer, number, reference, unit}
use Rattle.au_effects.specs.Worlds.{World, bears, elements, ends, tells, used}
use Rattle.au_places.specs.Memories.{with_items}
use Rattle.au_running_types.specs.Running.{token}
use Rattle.au_types.specs.Types as meaning
use Rattle.au_types.specs.Types.{Meaning}
use Rattle.au_memory.specs.Forests.{Holds, Made}
use Rattle.au_memory.specs.Loans.{Types}
use Rattle.au_borrows.specs.Orders.{Act}
use Rattle.au_borrows.specs.Told.{Open, with_birth, with_end, with_use}
use Rattle.au_acting.specs.Safe.{IsSafe}
use Rattle.au_acting.proofs.CasingLemmas.{sees_items}
use Rattle.au_acting.proofs.ItemLemmas as items
use Rattle.au_acting.proofs.TurnLemmas.{turns, uses_readers, uses_seconds, uses_writers}
use Rattle.au_acting.proofs.ValueLemmas as values
use Rattle.au_agreeing.specs.Stores.{memory_of, sizes_of, told_of}
use Rattle.au_agreeing.proofs.StoreLemmas.{births_begin, births_end, items_memory}
use Rattle.au_agreeing.proofs.ToldLemmas.{births_told, used_told}
use Rattle.au_sound_calls.specs.Buffering.{CopiesElements, EndsBuffers, HaveLengths, Inserts, MakesBuffers, Removes}
use Rattle.au_sound_calls.specs.Buffering.{Replaces}
use Rattle.au_sound_calls.specs.Sound.{GoesWell, IsSound, IsToldWell}
use Rattle.au_sound_calls.proofs.NumberLemmas.{index_least, index_natural, last_split, split_at}
use Rattle.au_sound_calls.proofs.PrintLemmas.{plain_gone}
use Rattle.au_sound_calls.proofs.SoundLemmas.{given_good, home_fits, number_is, sound_as, sound_plain, sound_used}
use Rattle.au_sound_calls.proofs.SoundLemmas.{told_well, told_memory, used_good}

-- a use of a buffer that is there
buffer_good : {B : Type 0} (P : Answer (List ℕ) B → Type 0) (w : World (List ℕ) B) (r : Value (List ℕ)) (b : ℕ)
    (to : Place) (i : ℕ) (vs : List (Value (List ℕ)))
    (go : ℕ → List (Value (List ℕ)) → World (List ℕ) B → Answer (List ℕ) B) → r ≡ reference b to
    → places.at to w ≡ Some (buffer i) → along (slice_get w.births i) elements_in ≡ Some vs
    → P (go i vs (tells (used b) w))
    → P (buffer_use r w go)
buffer_good P w r b to i vs go leads there holds good =
    used_good P w r b to (buffer i)
    (λ borrow place held. given (buffer_in held) (λ id. given (along (slice_get w.births id) elements_in)
    (λ values. go id values (tells (used borrow) w)))) leads there
    (given_good P (along (slice_get w.births i) elements_in) vs (λ values. go i values (tells (used b) w)) holds good)

module _ (B : Type 0) (types : Types) (owner : B → Option (List ℕ)) (acts : List Act) (hold : Holds)
    (names : ℕ → ℕ → Meaning) (under : Made) (lying : List Open) (sizes : List ℕ) (w : World (List ℕ) B) where
  -- what an answer comes to
  abbrev Good : Meaning → Answer (List ℕ) B → Type 0
  Good t answer = GoesWell types owner acts hold names t under lying sizes answer

  -- a store in which the elements of a buffer were set after a use
  set_after : (made : Made) (b i : ℕ) (old new : List (Value (List ℕ))) → w.keeps ≡ true → sizes_of w ≡ sizes
      → along (slice_get w.births i) elements_in ≡ Some old
      → IsSafe types owner acts hold names made (with_items i (Some new) (memory_of w)) (with_use b (told_of lying w))
      → IsSound types owner acts hold names made lying sizes (with_elements i new (tells (used b) w))
  set_after made b i old new keeps sized there safe =
      let one = tells (used b) w in
      let set = items_memory one i old new there in
      sound_as B types owner acts hold names made lying sizes (with_elements i new one) (with_items i (Some new) (memory_of w))
      (with_use b (told_of lying w)) keeps sized (set.0 ∙ ap (with_items i (Some new)) (told_memory (used b) w))
      (set.1 lying ∙ used_told w keeps lying b) safe

  pub makes_buffers : MakesBuffers B types owner acts hold names under lying sizes w
  unfolding shipped
  makes_buffers typed t of kind is home sound =
      let id = length w.births in
      let module' = codes "Standard.Buffer" in
      let begun = births_begin w kind module' in
      let told = births_told w sound.keeps lying in
      let safe = values.makes_buffers B types owner acts hold names under (memory_of w) (told_of lying w) t of kind module' is
      (home_fits owner id kind module' home) sound.safe in
      sound_as B types owner acts hold names ((buffer id, t) ∷ under) lying sizes (bears kind module' (elements []) w)
      (with_items id (Some []) (memory_of w)) (with_birth kind module' (told_of lying w)) sound.keeps sound.sized
      (begun.3 []) (told.2 kind module' []) safe

  -- a buffer ends, or the run aborts where it holds elements
  buffer_end : (i : ℕ) (vs : List (Value (List ℕ))) → w.keeps ≡ true → sizes_of w ≡ sizes → IsToldWell types owner acts hold names w
      → along (slice_get w.births i) elements_in ≡ Some vs
      → (vs ≡ [] → IsSafe types owner acts hold names under (with_items i None (memory_of w)) (with_end i (told_of lying w)))
      → Good meaning.unit (buffer_ended i vs w)
  buffer_end i [] keeps sized told there go =
      sound_plain B types owner acts hold names under lying sizes (ends i w) unit meaning.unit tt
      (sound_as B types owner acts hold names under lying sizes (ends i w) (with_items i None (memory_of w))
      (with_end i (told_of lying w)) keeps sized ((births_end w i).1 [] there) ((births_told w keeps lying).3 i) (go refl))
  buffer_end i (v ∷ vs) keeps sized told there go = told

  pub ends_buffers : EndsBuffers B types owner acts hold names under lying sizes w
  unfolding shipped
  ends_buffers typed v t of is sound =
      let done = values.ends_buffers B types owner acts hold names under (memory_of w) (told_of lying w) typed.forms
      typed.buffers v t of is sound.safe in
      subst (λ x. Good meaning.unit (shipped (λ u. u) prim.DestroyEmpty None w (x ∷ []))) (sym done.2)
      (given_good (Good meaning.unit) (along (slice_get w.births done.0) elements_in) done.1
      (λ vs. buffer_ended done.0 vs w) done.3
      (buffer_end done.0 done.1 sound.keeps sound.sized (told_well B types owner acts hold names ((v, t) ∷ under) lying sizes w sound)
      done.3 done.4))

  pub have_lengths : HaveLengths B types owner acts hold names under lying sizes w
  unfolding shipped
  have_lengths typed r t of z is on sound =
      let done = sees_items B types owner acts hold names under (memory_of w) (told_of lying w) typed.forms typed.buffers
      r t of z is on sound.safe in
      let one = tells (used done.0) w in
      let last = sound_plain B types owner acts hold names under lying sizes one (number Index (pos (length done.3)))
      (meaning.integer Index) (refl, index_least (length done.3))
      (sound_used B types owner acts hold names under lying sizes w done.0 sound.keeps sound.sized done.7) in
      buffer_good (Good (meaning.integer Index)) w r done.0 done.1 done.2 done.3
      (λ id values told. gives (number Index (pos (length values))) told) done.4 done.5 done.6 last

  pub inserts : Inserts B types owner acts hold names under lying sizes w
  unfolding shipped
  inserts typed new r t of z is on sound =
      let done = items.puts B types owner acts hold names under (memory_of w) (told_of lying w) typed.forms typed.buffers
      new r t of z is on sound.safe in
      let last = sound_plain B types owner acts hold names under lying sizes
      (with_elements done.2 (done.3 ++ new ∷ []) (tells (used done.0) w)) unit meaning.unit tt
      (set_after under done.0 done.2 done.3 (done.3 ++ new ∷ []) sound.keeps sound.sized done.6 done.7) in
      buffer_good (Good meaning.unit) w r done.0 done.1 done.2 done.3
      (λ id values told. gives unit (with_elements id (values ++ new ∷ []) told)) done.4 done.5 done.6 last

  -- the last element is taken, or the run aborts where there is none
  taken : (of : Meaning) (b i : ℕ) (vs : List (Value (List ℕ))) → w.keeps ≡ true → sizes_of w ≡ sizes
      → IsToldWell types owner acts hold names (tells (used b) w)
      → along (slice_get w.births i) elements_in ≡ Some vs
      → ((front : List (Value (List ℕ))) (last : Value (List ℕ)) → vs ≡ front ++ last ∷ []
      → IsSafe types owner acts hold names ((last, of) ∷ under) (with_items i (Some front) (memory_of w))
      (with_use b (told_of lying w)))
      → (last : Option (Value (List ℕ))) → slice_get vs (length vs - 1) ≡ last
      → Good of (last_taken i vs last (tells (used b) w))
  taken of b i vs keeps sized told there go None is = told
  taken of b i vs keeps sized told there go (Some last) is =
      let front = take (length vs - 1) vs in
      set_after ((last, of) ∷ under) b i vs front keeps sized there (go front last (last_split vs last is))

  -- an element is copied, or the run aborts where there is none
  copied : (of : Meaning) (b i : ℕ) (vs : List (Value (List ℕ))) → w.keeps ≡ true → sizes_of w ≡ sizes
      → IsToldWell types owner acts hold names (tells (used b) w)
      → ((front back : List (Value (List ℕ))) (v : Value (List ℕ)) → vs ≡ front ++ v ∷ back
      → IsSafe types owner acts hold names ((v, of) ∷ under) (memory_of w) (with_use b (told_of lying w)))
      → (n : ℕ) (one : Option (Value (List ℕ))) → slice_get vs n ≡ one
      → Good of (element_copied one (tells (used b) w))
  copied of b i vs keeps sized told go n None is = told
  copied of b i vs keeps sized told go n (Some v) is =
      let split = split_at vs n v is in
      sound_used B types owner acts hold names ((v, of) ∷ under) lying sizes w b keeps sized (go split.front split.back v split.is)

  -- an element gives way to another, or the run aborts where there is none
  replaced : (of : Meaning) (b i : ℕ) (vs : List (Value (List ℕ))) (new : Value (List ℕ)) → w.keeps ≡ true → sizes_of w ≡ sizes
      → IsToldWell types owner acts hold names (tells (used b) w)
      → along (slice_get w.births i) elements_in ≡ Some vs
      → ((front back : List (Value (List ℕ))) (old : Value (List ℕ)) → vs ≡ front ++ old ∷ back
      → IsSafe types owner acts hold names ((old, of) ∷ under) (with_items i (Some (front ++ new ∷ back)) (memory_of w))
      (with_use b (told_of lying w)))
      → (n : ℕ) (one : Option (Value (List ℕ))) → slice_get vs n ≡ one
      → Good of (element_replaced i vs n new one (tells (used b) w))
  replaced of b i vs new keeps sized told there go n None is = told
  replaced of b i vs new keeps sized told there go n (Some old) is =
      let split = split_at vs n old is in
      set_after ((old, of) ∷ under) b i vs (slice_set vs n new) keeps sized there
      (subst (λ xs. IsSafe types owner acts hold names ((old, of) ∷ under) (with_items i (Some xs) (memory_of w))
      (with_use b (told_of lying w))) (sym (split.set new)) (go split.front split.back old split.is))

-- what was told where a borrow was used
used_well : (B : Type 0) (types : Types) (owner : B → Option (List ℕ)) (acts : List Act) (hold : Holds)
    (names : ℕ → ℕ → Meaning) (under : Made) (lying : List Open) (sizes : List ℕ) (w : World (List ℕ) B) (r : Value (List ℕ)) (b c : ℕ)
    (to at : Place) → w.keeps ≡ true → sizes_of w ≡ sizes → r ≡ reference b to → r ≡ reference c at
    → IsSafe types owner acts hold names under (memory_of w) (with_use b (told_of lying w))
    → IsToldWell types owner acts hold names (tells (used c) w)
used_well B types owner acts hold names under lying sizes w r b c to at keeps sized first second safe =
    let same : b ≡ c = cc in
    subst (λ k. IsToldWell types owner acts hold names (tells (used k) w)) same
    (told_well B types owner acts hold names under lying sizes (tells (used b) w)
    (sound_used B types owner acts hold names under lying sizes w b keeps sized safe))

module _ (B : Type 0) (types : Types) (owner : B → Option (List ℕ)) (acts : List Act) (hold : Holds)
    (names : ℕ → ℕ → Meaning) (under : Made) (lying : List Open) (sizes : List ℕ) (w : World (List ℕ) B) where
  pub removes : Removes B types owner acts hold names under lying sizes w
  unfolding shipped
  removes typed r t of z is on sound =
      let m = memory_of w in
      let u = told_of lying w in
      let spent = uses_writers B types owner acts hold names under m u typed.forms r t z on sound.safe in
      let done = items.takes B types owner acts hold names under m u typed.forms typed.buffers r t of z is on sound.safe in
      let told = used_well B types owner acts hold names ((r, meaning.writes t (token z)) ∷ under) lying sizes w r spent.0 done.0
      spent.1 done.1 sound.keeps sound.sized spent.2 done.4 spent.3 in
      buffer_good (λ answer. GoesWell types owner acts hold names of under lying sizes answer) w r done.0 done.1 done.2 done.3
      (λ id values one. last_taken id values (slice_get values (length values - 1)) one) done.4 done.5 done.6
      (taken B types owner acts hold names under lying sizes w of done.0 done.2 done.3 sound.keeps sound.sized told done.6 done.7
      (slice_get done.3 (length done.3 - 1)) refl)

  pub copies_elements : CopiesElements B types owner acts hold names under lying sizes w
  unfolding shipped
  copies_elements typed i r t of z is free on sound =
      let m = memory_of w in
      let u = told_of lying w in
      let gone = plain_gone B types owner acts hold names ((r, meaning.reads t (token z)) ∷ under) lying sizes w typed i
      (meaning.integer Index) tt sound in
      let one = number_is i Index gone.0 in
      let index = index_natural one.0 one.2 in
      let value : i ≡ number Index (pos index.0) = one.1 ∙ ap (λ n. number Index n) index.1 in
      let safe = gone.1.safe in
      let spent = uses_readers B types owner acts hold names under m u typed.forms r t z on safe in
      let done = items.copies B types owner acts hold names under m u typed.forms typed.buffers r t of z is on safe in
      let told = used_well B types owner acts hold names ((r, meaning.reads t (token z)) ∷ under) lying sizes w r spent.0 done.0
      spent.1 done.1 sound.keeps sound.sized spent.2 done.4 spent.3 in
      subst (λ x. GoesWell types owner acts hold names of under lying sizes
      (shipped (λ k. k) prim.Nth None w (r ∷ x ∷ []))) (sym value)
      (buffer_good (λ answer. GoesWell types owner acts hold names of under lying sizes answer) w r done.0 done.1 done.2 done.3
      (λ id values now. element_copied (slice_get values index.0) now) done.4 done.5 done.6
      (copied B types owner acts hold names under lying sizes w of done.0 done.2 done.3 sound.keeps sound.sized told
      (λ front back v split. done.7 typed.lawful free front back v split) index.0 (slice_get done.3 index.0) refl))

  pub replaces : Replaces B types owner acts hold names under lying sizes w
  unfolding shipped
  replaces typed new i r t of z is on sound =
      let m = memory_of w in
      let u = told_of lying w in
      let turned : IsSound types owner acts hold names
      ((i, meaning.integer Index) ∷ (new, of) ∷ (r, meaning.writes t (token z)) ∷ under) lying sizes w =
      record {
        keeps = sound.keeps;
        sized = sound.sized;
        safe = turns B types owner acts hold names ((r, meaning.writes t (token z)) ∷ under) m u new i of
            (meaning.integer Index) sound.safe;
      } in
      let gone = plain_gone B types owner acts hold names ((new, of) ∷ (r, meaning.writes t (token z)) ∷ under) lying sizes w
      typed i (meaning.integer Index) tt turned in
      let one = number_is i Index gone.0 in
      let index = index_natural one.0 one.2 in
      let value : i ≡ number Index (pos index.0) = one.1 ∙ ap (λ n. number Index n) index.1 in
      let safe = gone.1.safe in
      let spent = uses_seconds B types owner acts hold names under m u typed.forms new r of t z on safe in
      let done = items.puts B types owner acts hold names under m u typed.forms typed.buffers new r t of z is on safe in
      let told = used_well B types owner acts hold names ((new, of) ∷ (r, meaning.writes t (token z)) ∷ under) lying sizes w r
      spent.0 done.0 spent.1 done.1 sound.keeps sound.sized spent.2 done.4 spent.3 in
      subst (λ x. GoesWell types owner acts hold names of under lying sizes
      (shipped (λ k. k) prim.ReplaceNth None w (r ∷ x ∷ new ∷ []))) (sym value)
      (buffer_good (λ answer. GoesWell types owner acts hold names of under lying sizes answer) w r done.0 done.1 done.2 done.3
      (λ id values now. element_replaced id values index.0 new (slice_get values index.0) now) done.4 done.5 done.6
      (replaced B types owner acts hold names under lying sizes w of done.0 done.2 done.3 new sound.keeps sound.sized told done.6 done.8
      index.0 (slice_get done.3 index.0) refl))
