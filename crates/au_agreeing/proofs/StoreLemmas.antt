-- What is done to a store is done to its memory.
use Rattle.std.proofs.Common.{◌≡◌, ◌⊎◌, inl, inr, ℕ, zero, suc, ◌+◌, ◌<◌, ◌==◌, ◌&&◌, Bool, true, false, List, [], ◌∷◌, ◌++◌}
use Rattle.std.proofs.Common.{length, Option, Some, None, refl, sym, ap, subst, ◌∙◌, slice_get, if◌then◌else◌}
use Rattle.std.specs.Option.{option_map}
use Rattle.std.specs.Prelude.{map, slice_set}
use Rattle.std.proofs.Common.{length-set}
use Rattle.std.proofs.lemmas.Bool.{eqb-true}
use Rattle.au_effects.specs.Calls.{elements_in, with_elements}
use Rattle.au_effects.specs.Parts.{along, part, with_part}
use Rattle.au_effects.specs.Places.{base_at, base_set, content_in, exchanged, name_at, name_set, set_over, with_name}
use Rattle.au_effects.specs.Values.{Base, Place, Value, content_of, name_of}
use Rattle.au_effects.specs.Worlds.{Deed, Held, World, bears, consumed, content, elements, ends, nothing, tells}
use Rattle.au_places.specs.Memories.{Memory, held_at, with_base, with_items, written}
use Rattle.au_places.specs.Places.{same_base}
use Rattle.au_borrows.specs.Told.{Open, Told}
use Rattle.au_agreeing.specs.Stores.{HasName, memory_of, sizes_of, told_of}
use Rattle.au_agreeing.proofs.ListLemmas.{along_more, along_set, get_none, get_within, put_same}

-- memories are the same where they hold the same
pub same_memory : {T : Type 0} (m n : Memory T) → ((base : Base) → m.at base ≡ n.at base)
    → ((i : ℕ) → m.elements i ≡ n.elements i) → m ≡ n
same_memory m n at items = λ i. record { at = λ base. at base i; elements = λ j. items j i }

-- ---- names

-- what a name holds in a list of names
abbrev look : {T : Type 0} → ℕ → List (Option (Value T)) → Option (Value T)
look x names = along (slice_get names x) (λ value. value)

-- a birth has a content or elements, and not both
no_elements : {T : Type 0} (held : Held T) (v : Value T) → content_in held ≡ Some v → elements_in held ≡ None
no_elements nothing v h = absurd cc
no_elements (content u) v h = refl
no_elements (elements us) v h = absurd cc

no_content : {T : Type 0} (held : Held T) (vs : List (Value T)) → elements_in held ≡ Some vs
    → content_in held ≡ None
no_content nothing vs h = absurd cc
no_content (content u) vs h = absurd cc
no_content (elements us) vs h = refl

-- each frame has as many names as before
pub name_sizes : {T : Type 0} (frames : List (List (Option (Value T)))) (k name : ℕ) (value : Option (Value T))
    → map (λ (names : List (Option (Value T))). length names)
    (slice_set frames k (with_name name value (slice_get frames k)))
    ≡ map (λ (names : List (Option (Value T))). length names) frames
name_sizes [] k name value = refl
name_sizes {T} (one ∷ rest) zero name value =
    ap (λ (n : ℕ). n ∷ map (λ (names : List (Option (Value T))). length names) rest) (length-set one name value)
name_sizes {T} (one ∷ rest) (suc k) name value = ap (λ (ns : List ℕ). length one ∷ ns) (name_sizes rest k name value)

-- what is told changes no memory
pub told_same : {T B : Type 0} (deed : Deed B) (w : World T B) → memory_of (tells deed w) ≡ memory_of w
told_same deed w = same_memory (memory_of (tells deed w)) (memory_of w) at (λ i. refl)
  where
    at : (base : Base) → base_at base (tells deed w) ≡ base_at base w
    at (name_of frame x) = refl
    at (content_of i) = refl

module _ {T B : Type 0} where
  names_at : (w : World T B) (frame name f x : ℕ) (value : Option (Value T)) → HasName w frame name
      → name_at f x (name_set frame name value w)
      ≡ (if same_base (name_of frame name) (name_of f x) then value else name_at f x w)
  names_at w frame name f x value has = first ∙ by (frame == f) refl
    where
      first : along (slice_get (slice_set w.frames frame (with_name name value (slice_get w.frames frame))) f) (look x)
          ≡ (if frame == f then look x (slice_set has.names name value) else along (slice_get w.frames f) (look x))
      first =
          ap (λ new. along (slice_get (slice_set w.frames frame new) f) (look x))
          (ap (with_name name value) has.there)
          ∙ along_set (look x) w.frames frame f (slice_set has.names name value)
          (get_within w.frames frame has.names has.there)

      by : (b : Bool) → (frame == f) ≡ b
          → (if b then look x (slice_set has.names name value) else along (slice_get w.frames f) (look x))
          ≡ (if b && (name == x) then value else along (slice_get w.frames f) (look x))
      by true e =
          let there : slice_get w.frames f ≡ Some has.names =
          subst (λ k. slice_get w.frames k ≡ Some has.names) (eqb-true frame f e) has.there in
          along_set (λ v. v) has.names name x value has.within
          ∙ ap (λ o. if name == x then value else along o (look x)) (sym there)
      by false e = refl

  pub name_memory : (w : World T B) (frame name : ℕ) (value : Option (Value T)) → HasName w frame name
      → memory_of (name_set frame name value w) ≡ with_base (name_of frame name) value (memory_of w)
  name_memory w frame name value has =
      same_memory (memory_of (name_set frame name value w)) (with_base (name_of frame name) value (memory_of w)) at
      (λ i. refl)
    where
      at : (base : Base) → base_at base (name_set frame name value w)
          ≡ (if same_base (name_of frame name) base then value else base_at base w)
      at (name_of f x) = names_at w frame name f x value has
      at (content_of i) = refl

  base_sizes : (w : World T B) (base : Base) (v : Value T) → sizes_of (base_set base v w) ≡ sizes_of w
  base_sizes w (name_of frame x) v = name_sizes w.frames frame x (Some v)
  base_sizes w (content_of i) v = refl

  -- a name that holds something is there
  pub has_name : (w : World T B) (frame name : ℕ) (v : Value T) → name_at frame name w ≡ Some v
      → HasName w frame name
  has_name w frame name v h = by (slice_get w.frames frame) refl h
    where
      in_names : (names : List (Option (Value T))) → slice_get w.frames frame ≡ Some names
          → (o : Option (Option (Value T))) → slice_get names name ≡ o → along o (λ value. value) ≡ Some v
          → HasName w frame name
      in_names names there None is k = absurd cc
      in_names names there (Some one) is k =
          record { names = names; there = there; within = get_within names name one is }

      by : (o : Option (List (Option (Value T)))) → slice_get w.frames frame ≡ o → along o (look name) ≡ Some v
          → HasName w frame name
      by None is k = absurd cc
      by (Some names) is k = in_names names is (slice_get names name) refl k

  -- ---- births

  -- what there is of a birth that is there
  birth_within : {C : Type 0} (w : World T B) (i : ℕ) (go : Held T → Option C) (c : C)
      → along (slice_get w.births i) go ≡ Some c
      → (held : Held T) × (slice_get w.births i ≡ Some held) × (go held ≡ Some c)
  birth_within w i go c h = by (slice_get w.births i) refl h
    where
      by : (o : Option (Held T)) → slice_get w.births i ≡ o → along o go ≡ Some c
          → (held : Held T) × (slice_get w.births i ≡ Some held) × (go held ≡ Some c)
      by None is k = absurd cc
      by (Some held) is k = (held, is, k)

  module _ (w : World T B) (i : ℕ) (held : Held T) (within : i < length w.births) where
    -- the store in which there is something else of a birth
    abbrev with_held : World T B
    with_held = record w { births = slice_set w.births i held }

    -- the content of a box is set where it has no elements before and after
    set_content : (o : Option (Value T)) → content_in held ≡ o
        → along (slice_get w.births i) elements_in ≡ elements_in held
        → memory_of with_held ≡ with_base (content_of i) o (memory_of w)
    set_content o is none =
        same_memory (memory_of with_held) (with_base (content_of i) o (memory_of w)) at
        (λ j. along_set elements_in w.births i j held within
        ∙ put_same i j (λ k. along (slice_get w.births k) elements_in) (elements_in held) none)
      where
        at : (base : Base) → base_at base with_held
            ≡ (if same_base (content_of i) base then o else base_at base w)
        at (name_of f x) = refl
        at (content_of j) =
            along_set content_in w.births i j held within
            ∙ ap (λ c. if i == j then c else along (slice_get w.births j) content_in) is

    set_items : (o : Option (List (Value T))) → elements_in held ≡ o
        → along (slice_get w.births i) content_in ≡ content_in held
        → memory_of with_held ≡ with_items i o (memory_of w)
    set_items o is none =
        same_memory (memory_of with_held) (with_items i o (memory_of w)) at
        (λ j. along_set elements_in w.births i j held within
        ∙ ap (λ c. if i == j then c else along (slice_get w.births j) elements_in) is)
      where
        at : (base : Base) → base_at base with_held ≡ base_at base w
        at (name_of f x) = refl
        at (content_of j) =
            along_set content_in w.births i j held within
            ∙ put_same i j (λ k. along (slice_get w.births k) content_in) (content_in held) none

  -- ---- places

  base_memory : (w : World T B) (base : Base) (v u : Value T) → base_at base w ≡ Some u
      → memory_of (base_set base v w) ≡ with_base base (Some v) (memory_of w)
  base_memory w (name_of frame x) v u h = name_memory w frame x (Some v) (has_name w frame x u h)
  base_memory w (content_of i) v u h =
      let held = birth_within w i content_in u h in
      set_content w i (content v) (get_within w.births i held.0 held.1) (Some v) refl
      (ap (λ o. along o elements_in) held.1 ∙ no_elements held.0 u held.2)

  -- what is told of a store, with so many births
  abbrev counted : World T B → List Open → ℕ → Told B
  counted w lying n = record { next_birth = n; next_borrow = w.borrows; lying = lying; events = w.deeds }

  base_told : (w : World T B) (base : Base) (v : Value T) (lying : List Open)
      → told_of lying (base_set base v w) ≡ told_of lying w
  base_told w (name_of frame x) v lying = refl
  base_told w (content_of i) v lying =
      ap (counted w lying)
      (length-set w.births i (content v))

  base_keeps : (w : World T B) (base : Base) (v : Value T) → (base_set base v w).keeps ≡ w.keeps
  base_keeps w (name_of frame x) v = refl
  base_keeps w (content_of i) v = refl

  -- what stood at a place, with the store in which its beginning was set
  abbrev giving : World T B → Base → Value T → Value T → Option (Value T × World T B)
  giving w base set old = Some (old, base_set base set w)

  pub place_written : (w : World T B) (place : Place) (new old : Value T) → held_at (memory_of w) place ≡ Some old
      → (after : World T B) × (exchanged place new w ≡ Some (old, after))
      × (memory_of after ≡ written place new (memory_of w))
      × ((lying : List Open) → told_of lying after ≡ told_of lying w) × (after.keeps ≡ w.keeps)
      × (sizes_of after ≡ sizes_of w)
  place_written w place new old h = by (base_at place.base w) refl h
    where
      by : (o : Option (Value T)) → base_at place.base w ≡ o → along o (part place.path) ≡ Some old
          → (after : World T B) × (set_over place new w o ≡ Some (old, after))
          × (memory_of after ≡ with_base place.base (option_map (with_part place.path new) (base_at place.base w))
          (memory_of w))
          × ((lying : List Open) → told_of lying after ≡ told_of lying w) × (after.keeps ≡ w.keeps)
          × (sizes_of after ≡ sizes_of w)
      by None is k = absurd cc
      by (Some base) is k =
          let set = with_part place.path new base in (
            base_set place.base set w,
            ap (λ (o : Option (Value T)). along o (giving w place.base set)) k,
            base_memory w place.base set base is
                ∙ ap (λ o. with_base place.base (option_map (with_part place.path new) o) (memory_of w)) (sym is),
            base_told w place.base set,
            base_keeps w place.base set,
            base_sizes w place.base set,
          )

  pub items_memory : (w : World T B) (id : ℕ) (old values : List (Value T)) → (memory_of w).elements id ≡ Some old
      → (memory_of (with_elements id values w) ≡ with_items id (Some values) (memory_of w))
      × ((lying : List Open) → told_of lying (with_elements id values w) ≡ told_of lying w)
  items_memory w id old values h =
      let held = birth_within w id elements_in old h in (
        set_items w id (elements values) (get_within w.births id held.0 held.1) (Some values) refl
            (ap (λ o. along o content_in) held.1 ∙ no_content held.0 old held.2),
        λ lying. ap (counted w lying)
            (length-set w.births id (elements values)),
      )

  -- ---- births begin and end

  module _ (w : World T B) (of : B) (home : List ℕ) where
    abbrev n : ℕ
    n = length w.births

    -- of the next number there is nothing
    nothing_yet : {C : Type 0} (go : Held T → Option C) → along (slice_get w.births n) go ≡ None
    nothing_yet go = ap (λ o. along o go) (get_none w.births)

    more_content : (held : Held T) (o : Option (Value T)) → content_in held ≡ o → elements_in held ≡ None
        → memory_of (bears of home held w) ≡ with_base (content_of n) o (memory_of w)
    more_content held o is none =
        same_memory (memory_of (bears of home held w)) (with_base (content_of n) o (memory_of w)) at
        (λ j. along_more elements_in w.births j held
        ∙ put_same n j (λ k. along (slice_get w.births k) elements_in) (elements_in held)
        (nothing_yet elements_in ∙ sym none))
      where
        at : (base : Base) → base_at base (bears of home held w)
            ≡ (if same_base (content_of n) base then o else base_at base w)
        at (name_of f x) = refl
        at (content_of j) =
            along_more content_in w.births j held
            ∙ ap (λ c. if n == j then c else along (slice_get w.births j) content_in) is

    more_items : (held : Held T) (o : Option (List (Value T))) → elements_in held ≡ o → content_in held ≡ None
        → memory_of (bears of home held w) ≡ with_items n o (memory_of w)
    more_items held o is none =
        same_memory (memory_of (bears of home held w)) (with_items n o (memory_of w)) at
        (λ j. along_more elements_in w.births j held
        ∙ ap (λ c. if n == j then c else along (slice_get w.births j) elements_in) is)
      where
        at : (base : Base) → base_at base (bears of home held w) ≡ base_at base w
        at (name_of f x) = refl
        at (content_of j) =
            along_more content_in w.births j held
            ∙ put_same n j (λ k. along (slice_get w.births k) content_in) (content_in held)
            (nothing_yet content_in ∙ sym none)

    more_nothing : memory_of (bears of home nothing w) ≡ memory_of w
    more_nothing =
        same_memory (memory_of (bears of home nothing w)) (memory_of w) at
        (λ j. along_more elements_in w.births j nothing
        ∙ put_same n j (λ k. along (slice_get w.births k) elements_in) None (nothing_yet elements_in))
      where
        at : (base : Base) → base_at base (bears of home nothing w) ≡ base_at base w
        at (name_of f x) = refl
        at (content_of j) =
            along_more content_in w.births j nothing
            ∙ put_same n j (λ k. along (slice_get w.births k) content_in) None (nothing_yet content_in)

    pub births_begin : ((memory_of w).at (content_of (length w.births)) ≡ None)
        × (memory_of (bears of home nothing w) ≡ memory_of w)
        × ((v : Value T) → memory_of (bears of home (content v) w)
        ≡ with_base (content_of (length w.births)) (Some v) (memory_of w))
        × ((vs : List (Value T)) → memory_of (bears of home (elements vs) w)
        ≡ with_items (length w.births) (Some vs) (memory_of w))
    births_begin = (
      nothing_yet content_in,
      more_nothing,
      λ v. more_content (content v) (Some v) refl refl,
      λ vs. more_items (elements vs) (Some vs) refl refl,
    )

  pub births_end : (w : World T B) (id : ℕ)
      → ((v : Value T) → (memory_of w).at (content_of id) ≡ Some v
      → memory_of (ends id w) ≡ with_base (content_of id) None (memory_of w))
      × ((vs : List (Value T)) → (memory_of w).elements id ≡ Some vs
      → memory_of (ends id w) ≡ with_items id None (memory_of w))
  births_end w id = (
    λ v h.
        let held = birth_within w id content_in v h in
        told_same (consumed id) (record w { births = slice_set w.births id nothing })
        ∙ set_content w id nothing (get_within w.births id held.0 held.1) None refl
        (ap (λ o. along o elements_in) held.1 ∙ no_elements held.0 v held.2),
    λ vs h.
        let held = birth_within w id elements_in vs h in
        told_same (consumed id) (record w { births = slice_set w.births id nothing })
        ∙ set_items w id nothing (get_within w.births id held.0 held.1) None refl
        (ap (λ o. along o content_in) held.1 ∙ no_content held.0 vs held.2),
  )
