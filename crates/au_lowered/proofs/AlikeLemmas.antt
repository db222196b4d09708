-- What a shipped call comes to on both sides: the meaning has no rule for it, or both are pictures of one answer.
use Rattle.std.proofs.Common.{◌≡◌, ◌⊎◌, inl, inr, ℕ, List, [], ◌∷◌, length, Option, Some, None, refl, sym, ap}
use Rattle.std.proofs.Common.{ap₂, subst}
use Rattle.std.proofs.Common.{◌∙◌, slice_get}
use Rattle.std.specs.Prelude.{option_map}
use Rattle.au_type_texts.specs.Types.{ClosedType}
use Rattle.au_effects.specs.Answers.{Answer, gives, none}
use Rattle.au_effects.specs.Calls.{given, untyped, of_none, of_one, of_two, of_three, use_of, buffer_use}
use Rattle.au_effects.specs.Calls.{buffer_in}
use Rattle.au_effects.specs.Calls.{elements_in}
use Rattle.au_effects.specs.Parts.{along}
use Rattle.au_effects.specs.Places.{at}
use Rattle.au_effects.specs.References.{reference_in}
use Rattle.au_effects.specs.Values.{Place}
use Rattle.au_effects.specs.Worlds as effects
use Rattle.au_low.specs.Machines.{Low, LowWorld}
use Rattle.au_meaning.specs.Worlds.{Value, Store}
use Rattle.au_syntax.specs.Plain.{Bytes}
use Rattle.au_lowered.specs.Maps.{world_to, answer_to}
use Rattle.au_lowered.specs.Sides.{as_meant, as_ran, place_slotted, Coding, Word, Both, Named, Slotted, meant}
use Rattle.au_lowered.specs.Sides.{ran}
use Rattle.au_lowered.specs.Sides.{all_meant, all_ran}
use Rattle.au_lowered.proofs.DeedLemmas.{tells_to, elements_to}
use Rattle.au_lowered.proofs.MapLemmas.{buffer_in_to}
use Rattle.au_lowered.proofs.ReferenceLemmas.{slotted, meant_reference, ran_reference}

-- nothing is changed
pub unchanged : {X : Type 0} (o : Option X) → o ≡ option_map (λ (x : X). x) o
unchanged None = refl
unchanged (Some x) = refl

module _ (by : Coding) (upper : List Named) (lower : List Slotted) where
  -- a store with the names of the meaning, and one with the slots of the machine
  abbrev pub above : effects.World (Word by) ClosedType → Store
  above w = world_to (as_meant by) (λ (t : ClosedType). t) upper w

  abbrev pub under : effects.World (Word by) ClosedType → LowWorld
  under w = world_to (as_ran by) by.of lower w

  -- the pictures of an answer
  abbrev pub meant_answer : Answer (Word by) ClosedType → Answer Bytes ClosedType
  meant_answer r = answer_to (as_meant by) (λ (t : ClosedType). t) upper r

  abbrev pub ran_answer : Answer (Word by) ClosedType → Answer ℕ ℕ
  ran_answer r = answer_to (as_ran by) by.of lower r

  -- two answers are pictures of one
  pub record Alike (x : Answer Bytes ClosedType) (y : Answer ℕ ℕ) : Type 0 where
    pub answer : Answer (Word by) ClosedType
    pub in_meaning : x ≡ meant_answer answer
    pub in_machine : y ≡ ran_answer answer

  abbrev pub Comes : Answer Bytes ClosedType → Answer ℕ ℕ → Type 0
  Comes x y = (x ≡ none) ⊎ Alike x y

  pub comes_so : (r : Answer (Word by) ClosedType) (x : Answer Bytes ClosedType) (y : Answer ℕ ℕ)
      → x ≡ meant_answer r → y ≡ ran_answer r → Comes x y
  comes_so r x y is same = inr (record { answer = r; in_meaning = is; in_machine = same })

  -- a value is given
  pub comes_given : (v : Both by) (w : effects.World (Word by) ClosedType) (x : Value) (y : Low) (m : Store)
      (n : LowWorld) → x ≡ meant by v → y ≡ ran by v → m ≡ above w → n ≡ under w → Comes (gives x m) (gives y n)
  comes_given v w x y m n x_is y_is m_is n_is =
      comes_so (gives v w) (gives x m) (gives y n) (ap₂ (λ a b. gives a b) x_is m_is)
      (ap₂ (λ a b. gives a b) y_is n_is)

  -- ---- what needs something

  given_both : {X Y Z : Type 0} (o : Option X) (p : X → Y) (q : X → Z) (go : Y → Answer Bytes ClosedType)
      (also : Z → Answer ℕ ℕ) → ((x : X) → Comes (go (p x)) (also (q x)))
      → Comes (given (option_map p o) go) (given (option_map q o) also)
  given_both None p q go also h = inl refl
  given_both (Some x) p q go also h = h x

  pub given_alike : {X Y Z : Type 0} (o : Option X) (p : X → Y) (q : X → Z) (a : Option Y) (b : Option Z)
      (go : Y → Answer Bytes ClosedType) (also : Z → Answer ℕ ℕ) → a ≡ option_map p o → b ≡ option_map q o
      → ((x : X) → Comes (go (p x)) (also (q x))) → Comes (given a go) (given b also)
  given_alike o p q a b go also a_is b_is h =
      subst (λ o1. Comes (given o1 go) (given b also)) (sym a_is)
      (subst (λ o2. Comes (given (option_map p o) go) (given o2 also)) (sym b_is) (given_both o p q go also h))

  -- the same thing on both sides
  pub given_same : {X : Type 0} (o a b : Option X) (go : X → Answer Bytes ClosedType) (also : X → Answer ℕ ℕ)
      → a ≡ o → b ≡ o → ((x : X) → Comes (go x) (also x)) → Comes (given a go) (given b also)
  given_same {X} o a b go also a_is b_is h =
      given_alike o (λ (x : X). x) (λ (x : X). x) a b go also (a_is ∙ unchanged o) (b_is ∙ unchanged o) h

  -- ---- uses of references

  -- what stands at a place
  pub record FoundAt (w : effects.World (Word by) ClosedType) (place : Place) : Type 0 where
    pub v : Both by
    pub in_meaning : at place (above w) ≡ Some (meant by v)
    pub in_machine : at (place_slotted by.slot place) (under w) ≡ Some (ran by v)

  -- what stands at a place of the meaning stands in the machine at that which has its slot
  abbrev pub Finds : effects.World (Word by) ClosedType → Type 0
  Finds w = (place : Place) → (at place (above w) ≡ None) ⊎ FoundAt w place

  pub use_alike : (a : Both by) (w : effects.World (Word by) ClosedType)
      (go : ℕ → Place → Value → Answer Bytes ClosedType) (also : ℕ → Place → Low → Answer ℕ ℕ) → Finds w
      → ((borrow : ℕ) (place : Place) (held : Both by)
      → Comes (go borrow place (meant by held)) (also borrow (place_slotted by.slot place) (ran by held)))
      → Comes (use_of (meant by a) (above w) go) (use_of (ran by a) (under w) also)
  use_alike a w go also finds h =
      given_alike (reference_in a) (λ (one : ℕ × Place). one) (slotted by) _ _ _ _
      (meant_reference by a ∙ unchanged (reference_in a)) (ran_reference by a) (λ one. at_place one (finds one.1))
    where
      at_place : (one : ℕ × Place) → (at one.1 (above w) ≡ None) ⊎ FoundAt w one.1
          → Comes (given (at one.1 (above w)) (λ held. go one.0 one.1 held))
          (given (at (place_slotted by.slot one.1)
          (under w)) (λ held. also one.0 (place_slotted by.slot one.1) held))
      at_place one (inl missing) = inl (ap (λ o. given o (λ held. go one.0 one.1 held)) missing)
      at_place one (inr found) =
          given_alike (Some found.v) (meant by) (ran by) _ _ _ _ found.in_meaning found.in_machine
          (λ held. h one.0 one.1 held)

  -- a buffer behind a reference
  pub buffer_alike : (a : Both by) (w : effects.World (Word by) ClosedType)
      (go : ℕ → List Value → Store → Answer Bytes ClosedType) (also : ℕ → List Low → LowWorld → Answer ℕ ℕ) →
      Finds w
      → ((id : ℕ) (values : List (Both by)) (told : effects.World (Word by) ClosedType)
      → Comes (go id (all_meant by values) (above told)) (also id (all_ran by values) (under told)))
      → Comes (buffer_use (meant by a) (above w) go) (buffer_use (ran by a) (under w) also)
  buffer_alike a w go also finds h =
      use_alike a w _ _ finds (λ borrow place held.
      given_same (buffer_in held) _ _ _ _ (buffer_in_to (as_meant by) held) (buffer_in_to (as_ran by) held) (λ id.
      given_alike (along (slice_get w.births id) elements_in) (all_meant by) (all_ran by) _ _ _ _
      (elements_to (as_meant by) w.births id) (elements_to (as_ran by) w.births id) (λ values.
      told borrow id values)))
    where
      told : (borrow id : ℕ) (values : List (Both by))
          → Comes (go id (all_meant by values) (effects.tells (effects.used borrow) (above w)))
          (also id (all_ran by values) (effects.tells (effects.used borrow) (under w)))
      told borrow id values =
          subst (λ m. Comes (go id (all_meant by values) m)
          (also id (all_ran by values) (effects.tells (effects.used
          borrow) (under w))))
          (sym (tells_to (as_meant by) (λ (t : ClosedType). t) upper (effects.used borrow) w))
          (subst (λ n. Comes (go id (all_meant by values) (above (effects.tells (effects.used borrow) w)))
          (also id
          (all_ran by values) n)) (sym (tells_to (as_ran by) by.of lower (effects.used borrow) w))
          (h id values (effects.tells (effects.used borrow) w)))

  -- ---- arguments

  -- the same of a call that has so many arguments
  abbrev pub Fits : ℕ → List (Both by) → Answer Bytes ClosedType → Answer ℕ ℕ → Type 0
  Fits count args x y = (x ≡ none) ⊎ ((length args ≡ count) × Alike x y)

  pub counted : (count : ℕ) (args : List (Both by)) (x : Answer Bytes ClosedType) (y : Answer ℕ ℕ)
      → length args ≡ count → Comes x y → Fits count args x y
  counted count args x y many (inl missing) = inl missing
  counted count args x y many (inr alike) = inr (many, alike)

  pub none_fits : (args : List (Both by)) (x : Answer Bytes ClosedType) (y : Answer ℕ ℕ) → Comes x y
      → Fits 0 args (of_none x (all_meant by args)) (of_none y (all_ran by args))
  none_fits [] x y h = counted 0 [] x y refl h
  none_fits (a ∷ more) x y h = inl refl

  pub one_fits : (args : List (Both by)) (go : Value → Answer Bytes ClosedType) (also : Low → Answer ℕ ℕ)
      → ((a : Both by) → Comes (go (meant by a)) (also (ran by a)))
      → Fits 1 args (of_one go (all_meant by args)) (of_one also (all_ran by args))
  one_fits [] go also h = inl refl
  one_fits (a ∷ []) go also h = counted 1 (a ∷ []) _ _ refl (h a)
  one_fits (a ∷ b ∷ more) go also h = inl refl

  pub two_fit : (args : List (Both by)) (go : Value → Value → Answer Bytes ClosedType)
      (also : Low → Low → Answer ℕ ℕ)
      → ((a b : Both by) → Comes (go (meant by a) (meant by b)) (also (ran by a) (ran by b)))
      → Fits 2 args (of_two go (all_meant by args)) (of_two also (all_ran by args))
  two_fit [] go also h = inl refl
  two_fit (a ∷ []) go also h = inl refl
  two_fit (a ∷ b ∷ []) go also h = counted 2 (a ∷ b ∷ []) _ _ refl (h a b)
  two_fit (a ∷ b ∷ d ∷ more) go also h = inl refl

  pub three_fit : (args : List (Both by)) (go : Value → Value → Value → Answer Bytes ClosedType)
      (also : Low → Low → Low → Answer ℕ ℕ)
      → ((a b d : Both by) → Comes (go (meant by a) (meant by b) (meant by d)) (also (ran by a) (ran by b) (ran by
      d)))
      → Fits 3 args (of_three go (all_meant by args)) (of_three also (all_ran by args))
  three_fit [] go also h = inl refl
  three_fit (a ∷ []) go also h = inl refl
  three_fit (a ∷ b ∷ []) go also h = inl refl
  three_fit (a ∷ b ∷ d ∷ []) go also h = counted 3 (a ∷ b ∷ d ∷ []) _ _ refl (h a b d)
  three_fit (a ∷ b ∷ d ∷ e ∷ more) go also h = inl refl

  -- a call in which nothing is born
  pub untyped_fits : (born : Option ClosedType) (count : ℕ) (args : List (Both by)) (x : Answer Bytes ClosedType)
      (y : Answer ℕ ℕ) → Fits count args x y →
      Fits count args (untyped born x) (untyped (option_map by.of born) y)
  untyped_fits None count args x y h = h
  untyped_fits (Some of) count args x y h = inl refl
