-- The frames below: how many they are, one more, the last of them, and one of them that changes.
use Rattle.std.proofs.Common.{◌≡◌, ℕ, zero, suc, ◌+◌, List, [], ◌∷◌, ◌++◌, length, Option, Some, refl}
use Rattle.std.proofs.Common.{ap, subst, ◌∙◌, arith, slice_get, set, inl, inr, ◌<◌}
use Rattle.std.specs.Prelude.{option_map}
use Rattle.std.proofs.lemmas.List.{length-set}
use Rattle.au_syntax.specs.Plain.{Bytes}
use Rattle.au_lowered.specs.Frames.{Frame, Wide, Rest_of, Agree, name_put, slot_put}
use Rattle.au_lowered.specs.Scopes.{Entry, variable, kept, Distinct, NumberFree, SlotFree, InScope, Level}
use Rattle.au_lowered.specs.Scopes.{Levels, Stood_at}
use Rattle.au_lowered.specs.Sides.{Coding, Both, Named, Slotted, Names, Slots, meant, ran}
use Rattle.au_lowered.proofs.FrameLemmas.{Found, only_set, set_same, held_other, held_slot}
use Rattle.au_type_texts.specs.Types.{ClosedType}

module _ (by : Coding) where
  -- there are as many on both sides
  pub levels_many : (ls : List (Level by)) (ns : List Named) (ss : List Slotted) → Levels by ls ns ss
      → (length ns ≡ length ls) × (length ss ≡ length ls)
  levels_many [] [] [] h = (refl, refl)
  levels_many [] [] (s ∷ ss) h = absurd h
  levels_many [] (n ∷ ns) ss h = absurd h
  levels_many (l ∷ ls) [] ss h = absurd h
  levels_many (l ∷ ls) (n ∷ ns) [] h = absurd h
  levels_many (l ∷ ls) (n ∷ ns) (s ∷ ss) h =
      let rest = levels_many ls ns ss h.1 in (omega (arith, rest.0), omega (arith, rest.1))

  -- one more
  pub levels_more : (ls : List (Level by)) (ns : List Named) (ss : List Slotted) (l : Level by) (n : Named)
      (s : Slotted) → Levels by ls ns ss → Stood_at by l n s
      → Levels by (ls ++ l ∷ []) (ns ++ n ∷ []) (ss ++ s ∷ [])
  levels_more [] [] [] l n s h k = (k, tt)
  levels_more [] [] (s2 ∷ ss) l n s h k = absurd h
  levels_more [] (n2 ∷ ns) ss l n s h k = absurd h
  levels_more (l2 ∷ ls) [] ss l n s h k = absurd h
  levels_more (l2 ∷ ls) (n2 ∷ ns) [] l n s h k = absurd h
  levels_more (l2 ∷ ls) (n2 ∷ ns) (s2 ∷ ss) l n s h k = (h.0, levels_more ls ns ss l n s h.1 k)

  -- the last one
  pub record Last (ls : List (Level by)) (l : Level by) (ns : List Named) (ss : List Slotted) : Type 0 where
    pub names_below : List Named
    pub names_own : Named
    pub slots_below : List Slotted
    pub slots_own : Slotted
    pub names_are : ns ≡ names_below ++ names_own ∷ []
    pub slots_are : ss ≡ slots_below ++ slots_own ∷ []
    pub levels : Levels by ls names_below slots_below
    pub stood : Stood_at by l names_own slots_own

  last_only : (l : Level by) (n : Named) (s : Slotted) (ns : List Named) (ss : List Slotted)
      → Stood_at by l n s → Levels by [] ns ss → Last [] l (n ∷ ns) (s ∷ ss)
  last_only l n s [] [] k h = record {
    names_below = [];
    names_own = n;
    slots_below = [];
    slots_own = s;
    names_are = refl;
    slots_are = refl;
    levels = tt;
    stood = k;
  }
  last_only l n s [] (s2 ∷ ss) k h = absurd h
  last_only l n s (n2 ∷ ns) ss k h = absurd h

  pub levels_last : (ls : List (Level by)) (l : Level by) (ns : List Named) (ss : List Slotted)
      → Levels by (ls ++ l ∷ []) ns ss → Last ls l ns ss
  levels_last [] l [] ss h = absurd h
  levels_last [] l (n ∷ ns) [] h = absurd h
  levels_last [] l (n ∷ ns) (s ∷ ss) h = last_only l n s ns ss h.0 h.1
  levels_last (l2 ∷ ls) l [] ss h = absurd h
  levels_last (l2 ∷ ls) l (n ∷ ns) [] h = absurd h
  levels_last (l2 ∷ ls) l (n ∷ ns) (s ∷ ss) h =
      let x = levels_last ls l ns ss h.1 in
      record {
        names_below = n ∷ x.names_below;
        names_own = x.names_own;
        slots_below = s ∷ x.slots_below;
        slots_own = x.slots_own;
        names_are = ap (λ all. n ∷ all) x.names_are;
        slots_are = ap (λ all. s ∷ all) x.slots_are;
        levels = (h.0, x.levels);
        stood = x.stood;
      }

  -- one of them
  pub record One (ls : List (Level by)) (ns : List Named) (ss : List Slotted) (k : ℕ) (n : Named) : Type 0 where
    pub level : Level by
    pub slots : Slotted
    pub there : slice_get ss k ≡ Some slots
    pub stood : Stood_at by level n slots
    pub put : (n2 : Named) (s2 : Slotted) → Stood_at by level n2 s2 → Levels by ls (set ns k n2) (set ss k s2)

  pub level_at : (ls : List (Level by)) (ns : List Named) (ss : List Slotted) (k : ℕ) (n : Named)
      → Levels by ls ns ss → slice_get ns k ≡ Some n → One ls ns ss k n
  level_at [] [] [] k n h e = absurd (grind arith)
  level_at [] [] (s ∷ ss) k n h e = absurd h
  level_at [] (n2 ∷ ns) ss k n h e = absurd h
  level_at (l ∷ ls) [] ss k n h e = absurd h
  level_at (l ∷ ls) (n2 ∷ ns) [] k n h e = absurd h
  level_at (l ∷ ls) (n2 ∷ ns) (s ∷ ss) zero n h e =
      let same : n2 ≡ n = cc in
      record {
        level = l;
        slots = s;
        there = refl;
        stood = subst (λ x. Stood_at by l x s) same h.0;
        put = λ n3 s3 k. (k, h.1);
      }
  level_at (l ∷ ls) (n2 ∷ ns) (s ∷ ss) (suc k) n h e =
      let x = level_at ls ns ss k n h.1 e in
      record {
        level = x.level;
        slots = x.slots;
        there = x.there;
        stood = x.stood;
        put = λ n3 s3 j. (h.0, x.put n3 s3 j);
      }

  -- the number of the running frame
  pub level_of : (f : Frame by) (names : Names) (slots : Slots) → Rest_of by f names slots
      → length slots.below ≡ length f.waiting
  level_of f names slots rest = (levels_many f.levels names.below slots.below rest.levels).1 ∙ f.level

  -- a variable of the running frame is put
  pub agree_put : (f : Frame by) (wide : Wide) (room : ℕ) (scope : List (Entry by)) (name : Bytes) (found :
      Found by scope name) (both : Option (Both by)) (names : Names) (slots : Slots) → Distinct by scope
      → Agree by f wide room scope names slots
      → Agree by f wide room scope (name_put found.number (option_map (meant by) both) names) (slot_put
      found.slot (option_map (ran by) both) slots)
  agree_put f wide room scope name found both names slots d ag = record {
    names_are = length-set names.own found.number (option_map (meant by) both) ∙ ag.names_are;
    slots_are = length-set slots.own found.slot (option_map (ran by) both) ∙ ag.slots_are;
    held = found.put names.own slots.own both d ag.held;
    only = only_set (λ m. InScope by m scope) names.own found.number (option_map (meant by) both) ag.only (λ
        v e. found.inside);
    rest = ag.rest;
    since = ag.since;
  }

  -- a variable is new to the running frame
  pub agree_new : (f : Frame by) (wide : Wide) (room : ℕ) (scope : List (Entry by)) (name : Bytes) (number slot :
      ℕ) (of : Option ClosedType) (v : Both by) (names : Names) (slots : Slots) → NumberFree by number scope
      → SlotFree by slot scope → number < length names.own → slot < length slots.own
      → Agree by f wide room scope names slots
      → Agree by f wide room (variable name number slot of ∷ scope) (name_put number (Some (meant by v)) names)
      (slot_put slot (Some (ran by v)) slots)
  agree_new f wide room scope name number slot of v names slots free free2 within within2 ag = record {
    names_are = length-set names.own number (Some (meant by v)) ∙ ag.names_are;
    slots_are = length-set slots.own slot (Some (ran by v)) ∙ ag.slots_are;
    held = (
      record {
        both = Some v;
        in_name = set_same names.own number (Some (meant by v)) within;
        in_slot = set_same slots.own slot (Some (ran by v)) within2;
      },
      held_other by scope number slot names.own slots.own (Some (meant by v)) (Some (ran by v)) free free2
          ag.held,
    );
    only = only_set (λ m. InScope by m (variable name number slot of ∷ scope)) names.own number (Some (meant by
        v)) (λ m w e. inr (ag.only m w e)) (λ w e. inl refl);
    rest = ag.rest;
    since = ag.since;
  }

  -- a value is kept in a slot that no variable has
  pub agree_kept : (f : Frame by) (wide : Wide) (room : ℕ) (scope : List (Entry by)) (slot : ℕ) (v : Both by)
      (names : Names) (slots : Slots) → SlotFree by slot scope → slot < length slots.own
      → Agree by f wide room scope names slots
      → Agree by f wide room (kept slot v ∷ scope) names (slot_put slot (Some (ran by v)) slots)
  agree_kept f wide room scope slot v names slots free within ag = record {
    names_are = ag.names_are;
    slots_are = length-set slots.own slot (Some (ran by v)) ∙ ag.slots_are;
    held = (
      set_same slots.own slot (Some (ran by v)) within,
      held_slot by scope slot names.own slots.own (Some (ran by v)) free ag.held,
    );
    only = ag.only;
    rest = ag.rest;
    since = ag.since;
  }
