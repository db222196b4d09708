-- What names and slots hold, and how it changes.
use Rattle.std.proofs.Common.{◌≡◌, ◌≢◌, ◌⊎◌, inl, inr, ℕ, zero, suc, ◌<◌, ◌≤◌, Bool, true, false, cond, List}
use Rattle.std.proofs.Common.{[], ◌∷◌, ◌++◌, length, Option, Some, None, refl, sym, ap, ◌∙◌, arith, slice_get}
use Rattle.std.proofs.Common.{set, le_trans, subst, ◌==◌, eqb-true, eq-eqb, true≢false}
use Rattle.std.specs.Prelude.{option_map}
use Rattle.std.specs.Str.{bytes_eq}
use Rattle.std.proofs.lemmas.Option.{slice_get_within}
use Rattle.std.proofs.lemmas.List.{set_at}
use Rattle.au_type_texts.specs.Types.{ClosedType}
use Rattle.au_effects.specs.Values as values
use Rattle.au_effects.specs.Worlds as effects
use Rattle.au_effects.specs.Parts.{along}
use Rattle.au_effects.specs.Places.{name_at, name_set, with_name}
use Rattle.au_meaning.specs.Names.{variable_of}
use Rattle.au_syntax.specs.Plain.{Bytes}
use Rattle.au_lowered.specs.Sides.{Coding, Named, Slotted, Both, meant, ran}
use Rattle.au_lowered.specs.Scopes.{Entry, variable, kept, numbers_in, slots_in, Same, Held, NumberFree}
use Rattle.au_lowered.specs.Scopes.{SlotFree, Distinct, Under, InScope, From}

-- ---- lists

pub set_same : {A : Type 0} (xs : List A) (n : ℕ) (x : A) → n < length xs → slice_get (set xs n x) n
    ≡ Some x
set_same [] n x h = absurd (omega (arith, h))
set_same (y ∷ xs) zero x h = refl
set_same (y ∷ xs) (suc n) x h = set_same xs n x (omega (arith, h))

pub set_other : {A : Type 0} (xs : List A) (n m : ℕ) (x : A) → n ≢ m → slice_get (set xs m x) n
    ≡ slice_get xs n
set_other [] n m x h = refl
set_other (y ∷ xs) zero zero x h = absurd (h refl)
set_other (y ∷ xs) zero (suc m) x h = refl
set_other (y ∷ xs) (suc n) zero x h = refl
set_other (y ∷ xs) (suc n) (suc m) x h = set_other xs n m x (λ e. h (ap suc e))

pub get_at : {A : Type 0} (xs : List A) (x : A) (ys : List A) (n : ℕ) → length xs ≡ n
    → slice_get (xs ++ x ∷ ys) n ≡ Some x
get_at [] x ys zero e = refl
get_at [] x ys (suc n) e = absurd (omega (arith, e))
get_at (y ∷ xs) x ys zero e = absurd (omega (arith, e))
get_at (y ∷ xs) x ys (suc n) e = get_at xs x ys n (omega (arith, e))

-- what is found where something is set is that
pub set_got : {A : Type 0} (xs : List A) (n : ℕ) (x y : A) → slice_get (set xs n x) n ≡ Some y → x ≡ y
set_got [] n x y e = absurd (grind arith)
set_got (z ∷ xs) zero x y e = cc
set_got (z ∷ xs) (suc n) x y e = set_got xs n x y e

-- What holds of the names that hold a value holds of them where one is set, if it holds of this one, where it
-- holds a value then.
pub only_set : {T : Type 0} (P : ℕ → Type 0) (names : List (Option (values.Value T))) (n : ℕ) (x : Option
    (values.Value T))
    → ((m : ℕ) (v : values.Value T) → slice_get names m ≡ Some (Some v) → P m)
    → ((v : values.Value T) → x ≡ Some v → P n)
    → (m : ℕ) (v : values.Value T) → slice_get (set names n x) m ≡ Some (Some v) → P m
only_set P names n x h k m v e = by_test (m == n) refl
  where
    by_test : (b : Bool) → (m == n) ≡ b → P m
    by_test true t =
        let same : m ≡ n = eqb-true m n t in
        let here : slice_get (set names n x) n ≡ Some (Some v) = ap (λ i. slice_get (set names n x) i) (sym
        same) ∙ e in
        subst P (sym same) (k v (set_got names n x (Some v) here))
    by_test false t =
        let apart : m ≢ n = λ same. absurd (true≢false (sym (eq-eqb m n same) ∙ t)) in
        h m v (sym (set_other names m n x apart) ∙ e)

-- ---- the last frame of a world

-- what a name of it holds
pub last_name : {T B : Type 0} (w : effects.World T B) (under : List (List (Option (values.Value T))))
    (names : List (Option (values.Value T))) (n name : ℕ)
    → w.frames ≡ under ++ names ∷ [] → length under ≡ n → name_at n name w
    ≡ along (slice_get names name) (λ value. value)
last_name w under names n name e k =
    ap (λ frames. along (slice_get frames n) (λ all. along (slice_get all name) (λ value. value))) e
    ∙ ap (λ o. along o (λ all. along (slice_get all name) (λ value. value))) (get_at under names [] n k)

-- a name of it is set
pub last_set : {T B : Type 0} (w : effects.World T B) (under : List (List (Option (values.Value T)))) (names
    : List (Option (values.Value T))) (n name : ℕ) (value : Option (values.Value T))
    → w.frames ≡ under ++ names ∷ [] → length under ≡ n
    → name_set n name value w ≡ record w { frames = under ++ set names name value ∷ [] }
last_set w under names n name value e k =
    ap (λ frames. record w { frames = set frames n (with_name name value (slice_get frames n)) }) e
    ∙ ap (λ o. record w { frames = set (under ++ names ∷ []) n (with_name name value o) }) (get_at under
    names [] n k)
    ∙ ap (λ frames. record w { frames = frames }) (set_at under names [] (set names name value) n k)

module _ (by : Coding) where
  -- ---- what is held

  same_other : (number slot n s : ℕ) (names : Named) (slots : Slotted) (x : Option (values.Value Bytes)) (y :
      Option (values.Value ℕ))
      → number ≢ n → slot ≢ s → Same by number slot names slots
      → Same by number slot (set names n x) (set slots s y)
  same_other number slot n s names slots x y p q h = record {
    both = h.both;
    in_name = set_other names number n x p ∙ h.in_name;
    in_slot = set_other slots slot s y q ∙ h.in_slot;
  }

  -- another name and another slot are set
  pub held_other : (scope : List (Entry by)) (n s : ℕ) (names : Named) (slots : Slotted) (x : Option
      (values.Value Bytes)) (y : Option (values.Value ℕ))
      → NumberFree by n scope → SlotFree by s scope → Held by scope names slots
      → Held by scope (set names n x) (set slots s y)
  held_other [] n s names slots x y p q h = tt
  held_other (variable name number slot of ∷ rest) n s names slots x y p q h = (
    same_other number slot n s names slots x y p.0 q.0 h.0,
    held_other rest n s names slots x y p.1 q.1
        h.1,
  )
  held_other (kept slot value ∷ rest) n s names slots x y p q h =
      (set_other slots slot s y q.0 ∙ h.0, held_other rest n s names slots x y p q.1 h.1)

  pub held_name : (scope : List (Entry by)) (n : ℕ) (names : Named) (slots : Slotted) (x : Option
      (values.Value Bytes))
      → NumberFree by n scope → Held by scope names slots → Held by scope (set names n x) slots
  held_name [] n names slots x p h = tt
  held_name (variable name number slot of ∷ rest) n names slots x p h = (
    record {
      both = h.0.both;
      in_name = set_other names number n x p.0
          ∙ h.0.in_name;
      in_slot = h.0.in_slot;
    },
    held_name rest n names slots x p.1 h.1,
  )
  held_name (kept slot value ∷ rest) n names slots x p h = (h.0, held_name rest n names slots x p h.1)

  pub held_slot : (scope : List (Entry by)) (s : ℕ) (names : Named) (slots : Slotted) (y : Option
      (values.Value ℕ))
      → SlotFree by s scope → Held by scope names slots → Held by scope names (set slots s y)
  held_slot [] s names slots y q h = tt
  held_slot (variable name number slot of ∷ rest) s names slots y q h = (
    record { both = h.0.both; in_name = h.0.in_name; in_slot = set_other slots slot s y q.0 ∙ h.0.in_slot },
    held_slot rest s names slots y q.1 h.1,
  )
  held_slot (kept slot value ∷ rest) s names slots y q h =
      (set_other slots slot s y q.0 ∙ h.0, held_slot rest s names slots y q.1 h.1)

  -- what is new is free
  pub number_free : (n s m : ℕ) (scope : List (Entry by)) → Under by n s scope → n ≤ m
      → NumberFree by m scope
  number_free n s m [] h le = tt
  number_free n s m (variable name number slot of ∷ rest) h le =
      ((λ e. absurd (omega (arith, e, h.0, le))), number_free n s m rest h.2 le)
  number_free n s m (kept slot value ∷ rest) h le = number_free n s m rest h.1 le

  pub slot_free : (n s m : ℕ) (scope : List (Entry by)) → Under by n s scope → s ≤ m → SlotFree by m scope
  slot_free n s m [] h le = tt
  slot_free n s m (variable name number slot of ∷ rest) h le =
      ((λ e. absurd (omega (arith, e, h.1, le))), slot_free n s m rest h.2 le)
  slot_free n s m (kept slot value ∷ rest) h le =
      ((λ e. absurd (omega (arith, e, h.0, le))), slot_free n s m rest h.1 le)

  pub under_more : (n s n2 s2 : ℕ) (scope : List (Entry by)) → n ≤ n2 → s ≤ s2 → Under by n s scope
      → Under by n2 s2 scope
  under_more n s n2 s2 [] p q h = tt
  under_more n s n2 s2 (variable name number slot of ∷ rest) p q h =
      (le_trans h.0 p, le_trans h.1 q, under_more n s n2 s2 rest p q h.2)
  under_more n s n2 s2 (kept slot value ∷ rest) p q h = (le_trans h.0 q, under_more n s n2 s2 rest p q h.1)

  -- what an outer scope holds
  pub held_outer : (new scope : List (Entry by)) (names : Named) (slots : Slotted)
      → Held by (new ++ scope) names slots → Held by scope names slots
  held_outer [] scope names slots h = h
  held_outer (variable name number slot of ∷ new) scope names slots h = held_outer new scope names slots h.1
  held_outer (kept slot value ∷ new) scope names slots h = held_outer new scope names slots h.1

  -- ---- what a number means

  -- A variable has a number: what it holds, and what is held where it is put.
  pub record Numbered (scope : List (Entry by)) (n : ℕ) : Type 0 where
    pub other_number : (m : ℕ) → NumberFree by m scope → n ≢ m
    pub other_slot : (s : ℕ) → SlotFree by s scope → by.slot n ≢ s
    pub look : (names : Named) (slots : Slotted) → Held by scope names slots
        → Same by n (by.slot n) names slots
    pub put : (names : Named) (slots : Slotted) (both : Option (Both by)) → Held by scope names slots
        → Held by scope (set names n (option_map (meant by) both)) (set slots (by.slot n) (option_map (ran
        by) both))

  numbered_first : (own : Bytes) (number : ℕ) (of : Option ClosedType) (rest : List (Entry by))
      → NumberFree by number rest → SlotFree by (by.slot number) rest
      → Numbered (variable own number (by.slot number) of ∷ rest) number
  numbered_first own number of rest p q = record {
    other_number = λ m h. h.0;
    other_slot = λ s h. h.0;
    look = λ names slots h. h.0;
    put = λ names slots both h. (
      record {
        both = both;
        in_name = set_same names number (option_map (meant by) both) (slice_get_within names number _
            h.0.in_name);
        in_slot = set_same slots (by.slot number) (option_map (ran by) both) (slice_get_within slots
            (by.slot number) _ h.0.in_slot);
      },
      held_other rest number (by.slot number) names slots (option_map (meant by) both) (option_map (ran by)
          both) p q h.1,
    );
  }

  numbered_later : (own : Bytes) (number slot : ℕ) (of : Option ClosedType) (rest : List (Entry by)) (n : ℕ)
      → NumberFree by number rest → SlotFree by slot rest → Numbered rest n
      → Numbered (variable own number slot of ∷ rest) n
  numbered_later own number slot of rest n p q g = record {
    other_number = λ m h. g.other_number m h.1;
    other_slot = λ s h. g.other_slot s h.1;
    look = λ names slots h. g.look names slots h.1;
    put = λ names slots both h. (
      same_other number slot n (by.slot n) names slots (option_map (meant by) both) (option_map (ran by)
          both) (λ e. g.other_number number p (sym e)) (λ e. g.other_slot slot q (sym e)) h.0,
      g.put names slots both h.1,
    );
  }

  numbered_kept : (slot : ℕ) (value : Both by) (rest : List (Entry by)) (n : ℕ) → SlotFree by slot rest
      → Numbered rest n → Numbered (kept slot value ∷ rest) n
  numbered_kept slot value rest n q g = record {
    other_number = λ m h. g.other_number m h;
    other_slot = λ s h. g.other_slot s h.1;
    look = λ names slots h. g.look names slots h.1;
    put = λ names slots both h. (
      set_other slots slot (by.slot n) (option_map (ran by) both) (λ e. g.other_slot slot q (sym e)) ∙ h.0,
      g.put names slots both h.1,
    );
  }

  pub numbered : (scope : List (Entry by)) (n : ℕ) → InScope by n scope → Distinct by scope
      → Numbered scope n
  numbered [] n h d = absurd h
  numbered (variable own number slot of ∷ rest) n (inl e) d =
      subst (λ m. Numbered (variable own number slot of ∷ rest) m) e
      (subst (λ s. Numbered (variable own number s of ∷ rest) number) d.2
      (numbered_first own number of rest d.0 (subst (λ s. SlotFree by s rest) (sym d.2) d.1)))
  numbered (variable own number slot of ∷ rest) n (inr h) d =
      numbered_later own number slot of rest n d.0 d.1 (numbered rest n h d.3)
  numbered (kept slot value ∷ rest) n h d = numbered_kept slot value rest n d.0 (numbered rest n h d.1)

  -- what is in scope has a number below the next one, and so has what is new
  pub in_under : (n s m : ℕ) (scope : List (Entry by)) → Under by n s scope → InScope by m scope → m < n
  in_under n s m [] u h = absurd h
  in_under n s m (variable own number slot of ∷ rest) u (inl e) = omega (arith, e, u.0)
  in_under n s m (variable own number slot of ∷ rest) u (inr h) = in_under n s m rest u.2 h
  in_under n s m (kept slot value ∷ rest) u h = in_under n s m rest u.1 h

  pub in_either : (first m : ℕ) (new scope : List (Entry by)) → From by first new → InScope by m (new ++ scope)
      → InScope by m scope ⊎ (first ≤ m)
  in_either first m [] scope u h = inl h
  in_either first m (variable own number slot of ∷ new) scope u (inl e) = inr (omega (arith, e, u.0))
  in_either first m (variable own number slot of ∷ new) scope u (inr h) = in_either first m new scope u.1 h
  in_either first m (kept slot value ∷ new) scope u h = in_either first m new scope u h

  pub from_less : (n m : ℕ) (new : List (Entry by)) → n ≤ m → From by m new → From by n new
  from_less n m [] le u = tt
  from_less n m (variable own number slot of ∷ new) le u = (le_trans le u.0, from_less n m new le u.1)
  from_less n m (kept slot value ∷ new) le u = from_less n m new le u

  pub from_both : (n : ℕ) (new more : List (Entry by)) → From by n new → From by n more → From by n (new ++
      more)
  from_both n [] more u h = h
  from_both n (variable own number slot of ∷ new) more u h = (u.0, from_both n new more u.1 h)
  from_both n (kept slot value ∷ new) more u h = from_both n new more u h

  -- ---- what a name means

  -- a name means a variable, with its number and its slot
  pub record Found (scope : List (Entry by)) (name : Bytes) : Type 0 where
    pub own : Bytes
    pub number : ℕ
    pub slot : ℕ
    pub of : Option ClosedType
    pub in_numbers : variable_of (numbers_in by scope) name
        ≡ Some (record { name = own; number = number; of = of })
    pub in_slots : variable_of (slots_in by scope) name
        ≡ Some (record { name = own; number = slot; of = of })
    pub inside : InScope by number scope
    pub homed : Distinct by scope → by.slot number ≡ slot
    pub other_number : (n : ℕ) → NumberFree by n scope → number ≢ n
    pub other_slot : (s : ℕ) → SlotFree by s scope → slot ≢ s
    pub look : (names : Named) (slots : Slotted) → Held by scope names slots → Same by number slot names slots
    pub put : (names : Named) (slots : Slotted) (both : Option (Both by)) → Distinct by scope
        → Held by scope names slots
        → Held by scope (set names number (option_map (meant by) both)) (set slots slot (option_map (ran by)
        both))

  -- it means none on both sides, or one
  abbrev pub Means : List (Entry by) → Bytes → Type 0
  Means scope name =
      ((variable_of (numbers_in by scope) name ≡ None) × (variable_of (slots_in by scope) name
      ≡ None)) ⊎ Found scope name

  found_first : (own : Bytes) (number slot : ℕ) (of : Option ClosedType) (rest : List (Entry by)) (name :
      Bytes)
      → bytes_eq own name ≡ true → Found (variable own number slot of ∷ rest) name
  found_first own number slot of rest name e = record {
    own = own;
    number = number;
    slot = slot;
    of = of;
    in_numbers = ap (λ b. cond b (Some (record { name = own; number = number; of = of })) (variable_of
        (numbers_in by rest) name)) e;
    in_slots = ap (λ b. cond b (Some (record { name = own; number = slot; of = of })) (variable_of (slots_in
        by rest) name)) e;
    inside = inl refl;
    homed = λ d. d.2;
    other_number = λ n h. h.0;
    other_slot = λ s h. h.0;
    look = λ names slots h. h.0;
    put = λ names slots both d h. (
      record {
        both = both;
        in_name = set_same names number (option_map (meant by) both) (slice_get_within names number _
            h.0.in_name);
        in_slot = set_same slots slot (option_map (ran by) both) (slice_get_within slots slot _
            h.0.in_slot);
      },
      held_other rest number slot names slots (option_map (meant by) both) (option_map (ran by) both) d.0
          d.1 h.1,
    );
  }

  found_later : (own : Bytes) (number slot : ℕ) (of : Option ClosedType) (rest : List (Entry by)) (name :
      Bytes)
      → bytes_eq own name ≡ false → Found rest name → Found (variable own number slot of ∷ rest) name
  found_later own number slot of rest name e g = record {
    own = g.own;
    number = g.number;
    slot = g.slot;
    of = g.of;
    in_numbers = ap (λ b. cond b (Some (record { name = own; number = number; of = of })) (variable_of
        (numbers_in by rest) name)) e ∙ g.in_numbers;
    in_slots = ap (λ b. cond b (Some (record { name = own; number = slot; of = of })) (variable_of (slots_in
        by rest) name)) e ∙ g.in_slots;
    inside = inr g.inside;
    homed = λ d. g.homed d.3;
    other_number = λ n h. g.other_number n h.1;
    other_slot = λ s h. g.other_slot s h.1;
    look = λ names slots h. g.look names slots h.1;
    put = λ names slots both d h. (
      same_other number slot g.number g.slot names slots (option_map (meant by) both) (option_map (ran by)
          both)
          (λ e. g.other_number number d.0 (sym e)) (λ e. g.other_slot slot d.1 (sym e)) h.0,
      g.put names slots both d.3 h.1,
    );
  }

  found_kept : (slot : ℕ) (value : Both by) (rest : List (Entry by)) (name : Bytes) → Found rest name
      → Found (kept slot value ∷ rest) name
  found_kept slot value rest name g = record {
    own = g.own;
    number = g.number;
    slot = g.slot;
    of = g.of;
    in_numbers = g.in_numbers;
    in_slots = g.in_slots;
    inside = g.inside;
    homed = λ d. g.homed d.1;
    other_number = λ n h. g.other_number n h;
    other_slot = λ s h. g.other_slot s h.1;
    look = λ names slots h. g.look names slots h.1;
    put = λ names slots both d h. (
      set_other slots slot g.slot (option_map (ran by) both) (λ e. g.other_slot slot d.0 (sym e)) ∙ h.0,
      g.put names slots both d.1 h.1,
    );
  }

  pub means : (scope : List (Entry by)) (name : Bytes) → Means scope name
  means [] name = inl (refl, refl)
  means (variable own number slot of ∷ rest) name = tested (bytes_eq own name) refl (means rest name)
    where
      tested : (b : Bool) → bytes_eq own name ≡ b → Means rest name
          → Means (variable own number slot of ∷ rest) name
      tested true e g = inr (found_first own number slot of rest name e)
      tested false e (inl none) = inl (
        ap (λ b. cond b (Some (record { name = own; number = number; of = of })) (variable_of (numbers_in by
            rest) name)) e ∙ none.0,
        ap (λ b. cond b (Some (record { name = own; number = slot; of = of })) (variable_of (slots_in by
            rest) name)) e ∙ none.1,
      )
      tested false e (inr g) = inr (found_later own number slot of rest name e g)
  means (kept slot value ∷ rest) name = later (means rest name)
    where
      later : Means rest name → Means (kept slot value ∷ rest) name
      later (inl none) = inl none
      later (inr g) = inr (found_kept slot value rest name g)
