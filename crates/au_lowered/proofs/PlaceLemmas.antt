-- Places: what the meaning finds in one, the machine finds in that which has its slot; and where the one puts a
-- value, so does the other.
use Rattle.std.proofs.Common.{◌≡◌, ◌⊎◌, inl, inr, ℕ, ◌+◌, ◌-◌, ◌<◌, ◌≤◌, List, [], ◌∷◌}
use Rattle.std.proofs.Common.{◌++◌, length, Option, Some, None, refl, sym, ap, ◌∙◌, arith}
use Rattle.std.proofs.Common.{slice_get, set, zero, suc, ◌==◌}
use Rattle.std.specs.Prelude.{option_map}
use Rattle.std.proofs.lemmas.List.{length-set, map-set}
use Rattle.std.proofs.lemmas.Option.{slice_get_within}
use Rattle.au_type_texts.specs.Types.{ClosedType}
use Rattle.au_effects.specs.Parts.{along}
use Rattle.au_effects.specs.Places.{base_at, base_set, content_in, with_name}
use Rattle.au_effects.specs.Values.{Base, name_of, content_of}
use Rattle.au_effects.specs.Worlds as effects
use Rattle.au_effects.specs.Worlds.{content}
use Rattle.au_meaning.specs.Worlds.{Value}
use Rattle.au_lowered.specs.Frames.{Frame, Wide, Agree, world}
use Rattle.au_lowered.specs.Maps.{held_to, world_to}
use Rattle.au_lowered.specs.Scopes.{Entry, Distinct, InScope, Level, Stood_at}
use Rattle.au_lowered.specs.Sides.{as_meant, as_ran, base_slotted, lower, Coding, Both, Named, Slotted, Names}
use Rattle.au_lowered.specs.Sides.{Slots, Common, Word, meant, ran}
use Rattle.au_lowered.proofs.DeedLemmas.{content_to}
use Rattle.au_lowered.proofs.FrameLemmas.{numbered, only_set, get_at}
use Rattle.au_lowered.proofs.LevelLemmas.{level_at, levels_many}

-- ---- lists

get_front : {A : Type 0} (xs ys : List A) (n : ℕ) (x : A) → slice_get xs n ≡ Some x → slice_get (xs ++ ys) n
    ≡ Some x
get_front [] ys n x e = absurd (grind arith)
get_front (z ∷ xs) ys zero x e = e
get_front (z ∷ xs) ys (suc n) x e = get_front xs ys n x e

set_front : {A : Type 0} (xs ys : List A) (n : ℕ) (x : A) → n < length xs → set (xs ++ ys) n x ≡ set xs n x ++
    ys
set_front [] ys n x h = absurd (omega (arith, h))
set_front (z ∷ xs) ys zero x h = refl
set_front (z ∷ xs) ys (suc n) x h = ap (λ all. z ∷ all) (set_front xs ys n x (omega (arith, h)))

get_last : {A : Type 0} (xs : List A) (y : A) (n : ℕ) → slice_get xs n ≡ None
    → (slice_get (xs ++ y ∷ []) n ≡ None) ⊎ (length xs ≡ n)
get_last [] y zero e = inr refl
get_last [] y (suc n) e = inl refl
get_last (z ∷ xs) y zero e = absurd (grind arith)
get_last (z ∷ xs) y (suc n) e = later (get_last xs y n e)
  where
    later : (slice_get (xs ++ y ∷ []) n ≡ None) ⊎ (length xs ≡ n)
        → (slice_get (z ∷ (xs ++ y ∷ [])) (suc n) ≡ None) ⊎ (length (z ∷ xs) ≡ suc n)
    later (inl h) = inl h
    later (inr h) = inr (omega (arith, h))

set_last : {A : Type 0} (xs : List A) (y z : A) (n : ℕ) → length xs ≡ n → set (xs ++ y ∷ []) n z ≡ xs ++ z ∷ []
set_last [] y z zero e = refl
set_last [] y z (suc n) e = absurd (omega (arith, e))
set_last (x ∷ xs) y z zero e = absurd (omega (arith, e))
set_last (x ∷ xs) y z (suc n) e = ap (λ all. x ∷ all) (set_last xs y z n (omega (arith, e)))

-- a value that a name holds
some_both : {A B : Type 0} (g : A → B) (both : Option A) (x : B) → option_map g both ≡ Some x
    → (a : A) × (both ≡ Some a) × (x ≡ g a)
some_both g None x e = absurd (grind arith)
some_both g (Some a) x e = let same : g a ≡ x = cc in (a, refl, sym same)

module _ (by : Coding) where
  -- ---- a frame

  -- A name of a frame holds a value: so does its slot, and where both get another value, the frame stands.
  pub record Found_in (level : Level by) (names : Named) (slots : Slotted) (n : ℕ) (x : Value) : Type 0 where
    pub v : Both by
    pub is : x ≡ meant by v
    pub there : slice_get slots (by.slot n) ≡ Some (Some (ran by v))
    pub put : (v2 : Both by) → Stood_at by level (set names n (Some (meant by v2))) (set slots (by.slot n) (Some
        (ran by v2)))

  pub found_in : (level : Level by) (names : Named) (slots : Slotted) (n : ℕ) (x : Value)
      → Stood_at by level names slots → slice_get names n ≡ Some (Some x) → Found_in level names slots n x
  found_in level names slots n x stood e =
      let inside = stood.only n x e in
      let at = numbered by level.scope n inside level.distinct in
      let same = at.look names slots stood.held in
      let value : option_map (meant by) same.both ≡ Some x = cc in
      let found = some_both (meant by) same.both x value in
      record {
        v = found.0;
        is = found.2;
        there = same.in_slot ∙ ap (λ o. Some (option_map (ran by) o)) found.1;
        put = λ v2. record {
          names_are = length-set names n (Some (meant by v2)) ∙ stood.names_are;
          slots_are = length-set slots (by.slot n) (Some (ran by v2)) ∙ stood.slots_are;
          held = at.put names slots (Some v2) stood.held;
          only = only_set (λ m. InScope by m level.scope) names n (Some (meant by v2)) stood.only (λ w k.
              inside);
        };
      }

  module _ (f : Frame by) (wide : Wide) (room : ℕ) (scope : List (Entry by)) (distinct : Distinct by scope) where
    -- ---- what a place begins with

    -- What a place begins with holds a value: so does it in the machine; and where both get another value, the
    -- frame agrees.
    pub record There (base : Base) (names : Names) (slots : Slots) (c : Common by) : Type 0 where
      pub v : Both by
      pub in_meaning : base_at base (world by f names c).store ≡ Some (meant by v)
      pub in_machine : base_at (base_slotted by.slot base) (lower by (slots.below ++ slots.own ∷ []) c)
          ≡ Some (ran by v)
      pub names_below : Both by → List Named
      pub names_own : Both by → Named
      pub slots_below : Both by → List Slotted
      pub slots_own : Both by → Slotted
      pub store : Both by → effects.World (Word by) ClosedType
      pub put_meant : (v2 : Both by) → base_set base (meant by v2) (world by f names c).store
          ≡ world_to (as_meant by) (λ (t : ClosedType). t) (names_below v2 ++ names_own v2 ∷ []) (store v2)
      pub put_ran : (v2 : Both by) → base_set (base_slotted by.slot base) (ran by v2) (lower by (slots.below ++
          slots.own ∷ []) c)
          ≡ world_to (as_ran by) by.of (slots_below v2 ++ slots_own v2 ∷ []) (store v2)
      pub agree : (v2 : Both by) → Agree by f wide room scope
          (record { below = names_below v2; own = names_own v2; lent = names.lent })
          (record { below = slots_below v2; own = slots_own v2; lent = slots.lent })

    -- the content of a box
    content_there : (id : ℕ) (names : Names) (slots : Slots) (c : Common by) → Agree by f wide room scope names
        slots
        → (o : Option (Both by)) → along (slice_get c.store.births id) content_in ≡ o
        → (base_at (content_of id) (world by f names c).store ≡ None) ⊎ There (content_of id) names slots c
    content_there id names slots c ag None e =
        inl (content_to (as_meant by) c.store.births id ∙ ap (λ o. option_map (meant by) o) e)
    content_there id names slots c ag (Some v) e =
        inr (record {
          v = v;
          in_meaning = content_to (as_meant by) c.store.births id ∙ ap (λ o. option_map (meant by) o) e;
          in_machine = content_to (as_ran by) c.store.births id ∙ ap (λ o. option_map (ran by) o) e;
          names_below = λ v2. names.below;
          names_own = λ v2. names.own;
          slots_below = λ v2. slots.below;
          slots_own = λ v2. slots.own;
          store = λ v2. record c.store { births = set c.store.births id (content v2) };
          put_meant = λ v2. ap (λ births. record (world by f names c).store { births = births }) (sym (map-set
              (held_to (as_meant by)) c.store.births id (content v2)));
          put_ran = λ v2. ap (λ births. record (lower by (slots.below ++ slots.own ∷ []) c) { births = births })
              (sym (map-set (held_to (as_ran by)) c.store.births id (content v2)));
          agree = λ v2. record {
            names_are = ag.names_are;
            slots_are = ag.slots_are;
            held = ag.held;
            only = ag.only;
            rest = ag.rest;
            since = ag.since;
          };
        })

    -- a name of a frame below
    below_there : (k n : ℕ) (names : Names) (slots : Slots) (c : Common by) → Agree by f wide room scope names
        slots
        → (all : Named) → slice_get names.below k ≡ Some all → (x : Value) → slice_get all n ≡ Some (Some x)
        → There (name_of k n) names slots c
    below_there k n names slots c ag all e x g =
        let one = level_at by f.levels names.below slots.below k all ag.rest.levels e in
        let found = found_in one.level all one.slots n x one.stood g in
        let front = get_front names.below (names.own ∷ []) k all e in
        let front2 = get_front slots.below (slots.own ∷ []) k one.slots one.there in
        let within = slice_get_within names.below k all e in
        let within2 = slice_get_within slots.below k one.slots one.there in
        record {
          v = found.v;
          in_meaning = ap (λ o. along o (λ names. along (slice_get names n) (λ value. value))) front
              ∙ ap (λ o. along o (λ value. value)) g ∙ ap Some found.is;
          in_machine = ap (λ o. along o (λ names. along (slice_get names (by.slot n)) (λ value. value))) front2
              ∙ ap (λ o. along o (λ value. value)) found.there;
          names_below = λ v2. set names.below k (set all n (Some (meant by v2)));
          names_own = λ v2. names.own;
          slots_below = λ v2. set slots.below k (set one.slots (by.slot n) (Some (ran by v2)));
          slots_own = λ v2. slots.own;
          store = λ v2. c.store;
          put_meant = λ v2.
              ap (λ o. record (world by f names c).store {
                frames = set (names.below ++ names.own ∷ []) k (with_name n (Some (meant by v2)) o);
              }) front
              ∙ ap (λ frames. record (world by f names c).store { frames = frames }) (set_front names.below
              (names.own ∷ []) k (set all n (Some (meant by v2))) within);
          put_ran = λ v2.
              ap (λ o. record (lower by (slots.below ++ slots.own ∷ []) c) {
                frames = set (slots.below ++ slots.own ∷ []) k (with_name (by.slot n) (Some (ran by v2)) o);
              }) front2
              ∙ ap (λ frames. record (lower by (slots.below ++ slots.own ∷ []) c) { frames = frames }) (set_front
              slots.below (slots.own ∷ []) k (set one.slots (by.slot n) (Some (ran by v2))) within2);
          agree = λ v2. record {
            names_are = ag.names_are;
            slots_are = ag.slots_are;
            held = ag.held;
            only = ag.only;
            rest = record {
              levels = one.put (set all n (Some (meant by v2))) (set one.slots (by.slot n) (Some (ran by v2)))
                  (found.put v2);
              lent_are = ag.rest.lent_are;
            };
            since = ag.since;
          };
        }

    -- a name of the running frame
    own_there : (k n : ℕ) (names : Names) (slots : Slots) (c : Common by) → Agree by f wide room scope names slots
        → length names.below ≡ k → (x : Value) → slice_get names.own n ≡ Some (Some x)
        → There (name_of k n) names slots c
    own_there k n names slots c ag e x g =
        let level : Level by = record { count = wide.count; room = room; scope = scope; distinct = distinct } in
        let found = found_in level names.own slots.own n x (record {
          names_are = ag.names_are;
          slots_are = ag.slots_are;
          held = ag.held;
          only = ag.only;
        }) g in
        let many = levels_many by f.levels names.below slots.below ag.rest.levels in
        let e2 : length slots.below ≡ k = omega (arith, many.0, many.1, e) in
        let front = get_at names.below names.own [] k e in
        let front2 = get_at slots.below slots.own [] k e2 in
        record {
          v = found.v;
          in_meaning = ap (λ o. along o (λ names. along (slice_get names n) (λ value. value))) front
              ∙ ap (λ o. along o (λ value. value)) g ∙ ap Some found.is;
          in_machine = ap (λ o. along o (λ names. along (slice_get names (by.slot n)) (λ value. value))) front2
              ∙ ap (λ o. along o (λ value. value)) found.there;
          names_below = λ v2. names.below;
          names_own = λ v2. set names.own n (Some (meant by v2));
          slots_below = λ v2. slots.below;
          slots_own = λ v2. set slots.own (by.slot n) (Some (ran by v2));
          store = λ v2. c.store;
          put_meant = λ v2.
              ap (λ o. record (world by f names c).store {
                frames = set (names.below ++ names.own ∷ []) k (with_name n (Some (meant by v2)) o);
              }) front
              ∙ ap (λ frames. record (world by f names c).store { frames = frames }) (set_last names.below
              names.own (set names.own n (Some (meant by v2))) k e);
          put_ran = λ v2.
              ap (λ o. record (lower by (slots.below ++ slots.own ∷ []) c) {
                frames = set (slots.below ++ slots.own ∷ []) k (with_name (by.slot n) (Some (ran by v2)) o);
              }) front2
              ∙ ap (λ frames. record (lower by (slots.below ++ slots.own ∷ []) c) { frames = frames }) (set_last
              slots.below slots.own (set slots.own (by.slot n) (Some (ran by v2))) k e2);
          agree = λ v2. record {
            names_are = (found.put v2).names_are;
            slots_are = (found.put v2).slots_are;
            held = (found.put v2).held;
            only = (found.put v2).only;
            rest = ag.rest;
            since = ag.since;
          };
        }

    -- a name, by what its frame holds
    name_there : (k n : ℕ) (names : Names) (slots : Slots) (c : Common by) → Agree by f wide room scope names
        slots
        → (o : Option Named) → slice_get names.below k ≡ o
        → (base_at (name_of k n) (world by f names c).store ≡ None) ⊎ There (name_of k n) names slots c
    name_there k n names slots c ag (Some all) e = by_name (slice_get all n) refl
      where
        held : (o : Option (Option Value)) → slice_get all n ≡ o
            → base_at (name_of k n) (world by f names c).store ≡ along o (λ value. value)
        held o g = ap (λ o. along o (λ names. along (slice_get names n) (λ value. value))) (get_front names.below
            (names.own ∷ []) k all e)
            ∙ ap (λ o. along o (λ value. value)) g

        by_name : (o : Option (Option Value)) → slice_get all n ≡ o
            → (base_at (name_of k n) (world by f names c).store ≡ None) ⊎ There (name_of k n) names slots c
        by_name None g = inl (held None g)
        by_name (Some None) g = inl (held (Some None) g)
        by_name (Some (Some x)) g = inr (below_there k n names slots c ag all e x g)
    name_there k n names slots c ag None e = by_last (get_last names.below names.own k e)
      where
        by_name : length names.below ≡ k → (o : Option (Option Value)) → slice_get names.own n ≡ o
            → (base_at (name_of k n) (world by f names c).store ≡ None) ⊎ There (name_of k n) names slots c
        by_name is None g = inl (ap (λ o. along o (λ names. along (slice_get names n) (λ value. value))) (get_at
            names.below names.own [] k is) ∙ ap (λ o. along o (λ value. value)) g)
        by_name is (Some None) g = inl (ap (λ o. along o (λ names. along (slice_get names n) (λ value. value)))
            (get_at names.below names.own [] k is) ∙ ap (λ o. along o (λ value. value)) g)
        by_name is (Some (Some x)) g = inr (own_there k n names slots c ag is x g)

        by_last : (slice_get (names.below ++ names.own ∷ []) k ≡ None) ⊎ (length names.below ≡ k)
            → (base_at (name_of k n) (world by f names c).store ≡ None) ⊎ There (name_of k n) names slots c
        by_last (inl none) = inl (ap (λ o. along o (λ names. along (slice_get names n) (λ value. value))) none)
        by_last (inr is) = by_name is (slice_get names.own n) refl

    -- the beginning of a place holds nothing in the meaning, or it is there
    pub base_there : (base : Base) (names : Names) (slots : Slots) (c : Common by) → Agree by f wide room scope
        names slots
        → (base_at base (world by f names c).store ≡ None) ⊎ There base names slots c
    base_there (name_of k n) names slots c ag = name_there k n names slots c ag (slice_get names.below k) refl
    base_there (content_of id) names slots c ag =
        content_there id names slots c ag (along (slice_get c.store.births id) content_in) refl
