-- What stands behind references is exchanged, and what is done with boxes.
use Rattle.std.proofs.Common.{◌≡◌, ℕ, List, [], ◌∷◌, length, Option, Some, sym, ap, subst, ◌∙◌}
use Rattle.std.proofs.Common.{slice_get}
use Rattle.std.specs.Prelude.{None, codes}
use Rattle.au_shipped.specs.declared.prims.ShippedCall.TheVariants as prim
use Rattle.au_effects.specs.Answers.{Answer, gives}
use Rattle.au_effects.specs.Calls.{box_in, given, shipped}
use Rattle.au_effects.specs.Parts.{along}
use Rattle.au_effects.specs.Places.{content_in, exchanged}
use Rattle.au_effects.specs.Values.{box, content_of, reference}
use Rattle.au_effects.specs.Worlds.{World, bears, content, ends, tells, used}
use Rattle.au_places.specs.Memories.{held_at, with_base, written}
use Rattle.au_places.specs.Places.{content_place}
use Rattle.au_running_types.specs.Running.{token}
use Rattle.au_types.specs.Types as meaning
use Rattle.au_types.specs.Types.{Meaning}
use Rattle.au_memory.specs.Forests.{Holds, Made}
use Rattle.au_memory.specs.Loans.{Types}
use Rattle.au_borrows.specs.Orders.{Act}
use Rattle.au_borrows.specs.Told.{Open, with_birth, with_end, with_use}
use Rattle.au_acting.proofs.BehindLemmas as behind
use Rattle.au_acting.proofs.ReaderLemmas as readers
use Rattle.au_acting.proofs.ValueLemmas as values
use Rattle.au_agreeing.specs.Stores.{memory_of, told_of}
use Rattle.au_agreeing.proofs.StoreLemmas.{births_begin, births_end, place_written}
use Rattle.au_agreeing.proofs.ToldLemmas.{births_told, used_told}
use Rattle.au_sound_calls.specs.Boxing.{GetsContents, LendsContents, MakesBoxes, Swaps, Unboxes}
use Rattle.au_sound_calls.specs.Sound.{GoesWell, IsSound}
use Rattle.au_sound_calls.proofs.SoundLemmas.{given_good, home_fits, sound_as, sound_used, told_memory, used_good}

module _ (B : Type 0) (types : Types) (owner : B → Option (List ℕ)) (acts : List Act) (hold : Holds)
    (names : ℕ → ℕ → Meaning) (under : Made) (lying : List Open) (sizes : List ℕ) (w : World (List ℕ) B) where
  -- what an answer comes to
  abbrev Good : Meaning → Answer (List ℕ) B → Type 0
  Good t answer = GoesWell types owner acts hold names t under lying sizes answer

  pub swaps : Swaps B types owner acts hold names under lying sizes w
  unfolding shipped
  swaps typed new r t z on sound =
      let done = behind.swaps B types owner acts hold names under (memory_of w) (told_of lying w) typed.forms new r t z on
      sound.safe in
      let one = tells (used done.0) w in
      let before = subst (λ n. held_at n done.1 ≡ Some done.2) (sym (told_memory (used done.0) w)) done.4 in
      let there = place_written one done.1 new done.2 before in
      let memory : memory_of there.0 ≡ written done.1 new (memory_of w) =
      there.2 ∙ ap (written done.1 new) (told_memory (used done.0) w) in
      let told : told_of lying there.0 ≡ with_use done.0 (told_of lying w) =
      there.3 lying ∙ used_told w sound.keeps lying done.0 in
      let last : IsSound types owner acts hold names ((done.2, t) ∷ under) lying sizes there.0 =
      sound_as B types owner acts hold names ((done.2, t) ∷ under) lying sizes there.0 (written done.1 new (memory_of w))
      (with_use done.0 (told_of lying w)) (there.4 ∙ sound.keeps) (there.5 ∙ sound.sized) memory told done.5 in
      subst (λ x. Good t (shipped (λ u. u) prim.Swap None w (x ∷ new ∷ []))) (sym done.3)
      (given_good (Good t) (exchanged done.1 new one) (done.2, there.0) (λ pair. gives pair.0 pair.1) there.1 last)

  pub makes_boxes : MakesBoxes B types owner acts hold names under lying sizes w
  unfolding shipped
  makes_boxes typed v t of kind is home sound =
      let id = length w.births in
      let module' = codes "Standard.Box" in
      let begun = births_begin w kind module' in
      let told = births_told w sound.keeps lying in
      let safe = values.makes_boxes B types owner acts hold names under (memory_of w) (told_of lying w) v of t kind module' is
      begun.0 (home_fits owner id kind module' home) sound.safe in
      sound_as B types owner acts hold names ((box id, t) ∷ under) lying sizes (bears kind module' (content v) w)
      (with_base (content_of id) (Some v) (memory_of w)) (with_birth kind module' (told_of lying w)) sound.keeps sound.sized
      (begun.2 v) (told.1 kind module' v) safe

  pub unboxes : Unboxes B types owner acts hold names under lying sizes w
  unfolding shipped
  unboxes typed v t of is sound =
      let done = values.opens_boxes B types owner acts hold names under (memory_of w) (told_of lying w) typed.forms
      typed.boxes v t of is sound.safe in
      let memory = (births_end w done.0).0 done.1 done.3 in
      let told = (births_told w sound.keeps lying).3 done.0 in
      let last : IsSound types owner acts hold names ((done.1, of) ∷ under) lying sizes (ends done.0 w) =
      sound_as B types owner acts hold names ((done.1, of) ∷ under) lying sizes (ends done.0 w)
      (with_base (content_of done.0) None (memory_of w)) (with_end done.0 (told_of lying w)) sound.keeps sound.sized memory told
      done.4 in
      subst (λ x. Good of (shipped (λ u. u) prim.Unbox None w (x ∷ []))) (sym done.2)
      (given_good (Good of) (along (slice_get w.births done.0) content_in) done.1 (λ value. gives value (ends done.0 w)) done.3 last)

  pub gets_contents : GetsContents B types owner acts hold names under lying sizes w
  unfolding shipped
  gets_contents typed r t of z is on sound =
      let done = readers.sees_contents B types owner acts hold names under (memory_of w) (told_of lying w) typed.forms
      typed.boxes r t of z is on sound.safe in
      let last = sound_used B types owner acts hold names
      ((reference done.0 (content_place done.2), meaning.reads of (token z)) ∷ under) lying sizes w done.0 sound.keeps sound.sized done.5 in
      used_good (Good (meaning.reads of (token z))) w r done.0 done.1 (box done.2)
      (λ borrow place held. given (box_in held) (λ id.
      gives (reference borrow (content_place id)) (tells (used borrow) w))) done.3 done.4 last

  pub lends_contents : LendsContents B types owner acts hold names under lying sizes w
  unfolding shipped
  lends_contents typed r t of z is on sound =
      let done = behind.lends_contents B types owner acts hold names under (memory_of w) (told_of lying w) typed.forms
      typed.boxes r t of z is on sound.safe in
      let last = sound_used B types owner acts hold names
      ((reference done.0 (content_place done.2), meaning.writes of (token z)) ∷ under) lying sizes w done.0 sound.keeps sound.sized
      done.5 in
      used_good (Good (meaning.writes of (token z))) w r done.0 done.1 (box done.2)
      (λ borrow place held. given (box_in held) (λ id.
      gives (reference borrow (content_place id)) (tells (used borrow) w))) done.3 done.4 last
