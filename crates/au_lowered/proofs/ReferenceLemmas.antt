-- References: what they are on both sides, what is read and put behind them, and borrows that are opened.
use Rattle.std.proofs.Common.{◌≡◌, ◌⊎◌, inl, inr, ℕ, ◌+◌, ◌<◌, ◌≤◌, true, List, [], ◌∷◌, ◌++◌, length, Option}
use Rattle.std.proofs.Common.{Some, None, refl, sym, ap, ap₂, ◌∙◌, arith, nat_lt, lt-ltb}
use Rattle.std.specs.Prelude.{option_map, if◌then◌else◌}
use Rattle.std.proofs.lemmas.List.{length-append}
use Rattle.std.proofs.lemmas.Option.{slice_get_within}
use Rattle.au_type_texts.specs.Types.{ClosedType}
use Rattle.au_effects.specs.Parts.{along, part}
use Rattle.au_effects.specs.Places.{base_at, base_set, exchanged}
use Rattle.au_effects.specs.References.{reference_in, read_behind, put_behind}
use Rattle.au_effects.specs.Values as values
use Rattle.au_effects.specs.Values.{Place}
use Rattle.au_effects.specs.Worlds as effects
use Rattle.au_low.specs.Instructions as low
use Rattle.au_low.specs.Machines as machines
use Rattle.au_low.specs.Machines.{Machine}
use Rattle.au_meaning.specs.Acts.{reference_held, borrowed_place, with_borrow, place_of, frame_in}
use Rattle.au_syntax.specs.declared.expressions.BorrowMode.{BorrowMode}
use Rattle.au_syntax.specs.declared.expressions.BorrowMode.TheVariants as borrowing
use Rattle.au_syntax.specs.declared.types.Access.{Access}
use Rattle.au_syntax.specs.Plain.{Bytes}
use Rattle.au_lowered.specs.Frames.{Frame, Wide, Agree, machine, world}
use Rattle.au_lowered.specs.Scopes.{Entry, Distinct, Same}
use Rattle.au_lowered.specs.Sides.{as_meant, as_ran, place_slotted, lower, Coding, Both, Names, Slots}
use Rattle.au_lowered.specs.Sides.{Common, meant, ran}
use Rattle.au_lowered.specs.Statements.{mode_in}
use Rattle.au_lowered.proofs.DeedLemmas.{tells_to, opens_to}
use Rattle.au_lowered.proofs.FrameLemmas.{Found}
use Rattle.au_lowered.proofs.LevelLemmas.{level_of, levels_many}
use Rattle.au_lowered.proofs.MapLemmas.{part_to}
use Rattle.au_lowered.proofs.MoveLemmas.{swapped, exchange_to}
use Rattle.au_lowered.proofs.PlaceLemmas.{There, base_there}
use Rattle.au_lowered.proofs.StepLemmas.{meant_at, ran_at, slots_are}

module _ (by : Coding) where
  -- ---- what a reference is

  -- the reference of the machine for one of the meaning
  abbrev pub slotted : ℕ × Place → ℕ × Place
  slotted one = (one.0, place_slotted by.slot one.1)

  pub meant_reference : (v : Both by) → reference_in (meant by v) ≡ reference_in v
  meant_reference values.unit = refl
  meant_reference (values.truth b) = refl
  meant_reference (values.number kind z) = refl
  meant_reference (values.text t) = refl
  meant_reference (values.made tag birth fields) = refl
  meant_reference (values.reference borrow place) = refl
  meant_reference (values.box id) = refl
  meant_reference (values.buffer id) = refl
  meant_reference (values.terminal id) = refl
  meant_reference (values.root id) = refl

  pub ran_reference : (v : Both by) → reference_in (ran by v) ≡ option_map slotted (reference_in v)
  ran_reference values.unit = refl
  ran_reference (values.truth b) = refl
  ran_reference (values.number kind z) = refl
  ran_reference (values.text t) = refl
  ran_reference (values.made tag birth fields) = refl
  ran_reference (values.reference borrow place) = refl
  ran_reference (values.box id) = refl
  ran_reference (values.buffer id) = refl
  ran_reference (values.terminal id) = refl
  ran_reference (values.root id) = refl

  along_meant : (both : Option (Both by)) → along (option_map (meant by) both) reference_in ≡ along both
      reference_in
  along_meant None = refl
  along_meant (Some v) = meant_reference v

  along_ran : (both : Option (Both by)) → along (option_map (ran by) both) reference_in ≡ option_map slotted
      (along both reference_in)
  along_ran None = refl
  along_ran (Some v) = ran_reference v

  module _ (f : Frame by) where
    -- the reference in a variable
    pub held_meant : (number slot : ℕ) (names : Names) (slots : Slots) (c : Common by) → (same : Same by number
        slot names.own slots.own)
        → reference_held number (world by f names c) ≡ along same.both reference_in
    held_meant number slot names slots c same =
        ap (λ o. along o reference_in) (meant_at by f number names c same.both same.in_name)
        ∙ along_meant same.both

    pub held_ran : (number slot p : ℕ) (ops : List (Both by)) (names : Names) (slots : Slots) (c : Common by)
        → length slots.below ≡ length f.waiting → (same : Same by number slot names.own slots.own)
        → low.reference_in_slot slot (machine by f p ops slots c) ≡ option_map slotted (along same.both
        reference_in)
    held_ran number slot p ops names slots c level same =
        ap (λ o. along o reference_in) (ran_at by f slot p ops slots c same.both level same.in_slot)
        ∙ along_ran same.both

  -- ---- uses

  -- a borrow is used
  abbrev pub deed_used : ℕ → Common by → Common by
  deed_used borrow c = record c { store = effects.tells (effects.used borrow) c.store }

  module _ (f : Frame by) (wide : Wide) (room : ℕ) (scope : List (Entry by)) (distinct : Distinct by scope) where
    -- what stands behind a reference is copied
    pub record Read (one : ℕ × Place) (names : Names) (slots : Slots) (c : Common by) : Type 0 where
      pub v : Both by
      pub in_meaning : read_behind one (world by f names c).store ≡ Some (
        meant by v,
        (world by f names (deed_used one.0 c)).store,
      )
      pub in_machine : read_behind (slotted one) (lower by (slots.below ++ slots.own ∷ []) c) ≡ Some (
        ran by v,
        lower by (slots.below ++ slots.own ∷ []) (deed_used one.0 c),
      )

    pub read_both : (one : ℕ × Place) (names : Names) (slots : Slots) (c : Common by) → Agree by f wide room scope
        names slots
        → (read_behind one (world by f names c).store ≡ None) ⊎ Read one names slots c
    read_both one names slots c ag = by_base (base_there by f wide room scope distinct one.1.base names slots c ag)
      where
        w : effects.World Bytes ClosedType
        w = (world by f names c).store

        m : machines.LowWorld
        m = lower by (slots.below ++ slots.own ∷ []) c

        by_part : (there : There by f wide room scope distinct one.1.base names slots c) → (o : Option (Both by))
            → part one.1.path there.v ≡ o
            → (read_behind one w ≡ None) ⊎ Read one names slots c
        by_part there None e =
            inl (ap (λ o. along {B = values.Value Bytes × effects.World Bytes ClosedType} (along o (part
            one.1.path)) (λ value. Some (value, effects.tells (effects.used one.0) w))) there.in_meaning
            ∙ ap (λ o. along {B = values.Value Bytes × effects.World Bytes ClosedType} o (λ value. Some (
              value,
              effects.tells (effects.used one.0) w,
            ))) (part_to (as_meant by) one.1.path there.v ∙ ap (λ o. option_map (meant by) o) e))
        by_part there (Some v) e =
            inr (record {
              v = v;
              in_meaning =
                  ap (λ o. along {B = values.Value Bytes × effects.World Bytes ClosedType} (along o (part
                  one.1.path)) (λ value. Some (value, effects.tells (effects.used one.0) w))) there.in_meaning
                  ∙ ap (λ o. along {B = values.Value Bytes × effects.World Bytes ClosedType} o (λ value. Some (
                    value,
                    effects.tells (effects.used one.0) w,
                  ))) (part_to (as_meant by) one.1.path there.v ∙ ap (λ o. option_map (meant by) o) e)
                  ∙ ap (λ store. Some (meant by v, store)) (tells_to (as_meant by) (λ (t : ClosedType). t)
                  (names.below ++ names.own ∷ []) (effects.used one.0) c.store);
              in_machine =
                  ap (λ o. along {B = values.Value ℕ × machines.LowWorld} (along o (part one.1.path)) (λ value.
                  Some (value, effects.tells (effects.used one.0) m))) there.in_machine
                  ∙ ap (λ o. along {B = values.Value ℕ × machines.LowWorld} o (λ value. Some (
                    value,
                    effects.tells (effects.used one.0) m,
                  ))) (part_to (as_ran by) one.1.path there.v ∙ ap (λ o. option_map (ran by) o) e)
                  ∙ ap (λ store. Some (ran by v, store)) (tells_to (as_ran by) by.of (slots.below ++ slots.own ∷
                  []) (effects.used one.0) c.store);
            })

        by_base : (base_at one.1.base w ≡ None) ⊎ There by f wide room scope distinct one.1.base names slots c
            → (read_behind one w ≡ None) ⊎ Read one names slots c
        by_base (inl none) = inl (ap (λ o. along {B = values.Value Bytes × effects.World Bytes ClosedType} (along o
            (part one.1.path)) (λ value. Some (value, effects.tells (effects.used one.0) w))) none)
        by_base (inr there) = by_part there (part one.1.path there.v) refl

    -- what stands behind a reference gives way to another value
    pub record Put (one : ℕ × Place) (new : Both by) (names : Names) (slots : Slots) (c : Common by)
        : Type 0 where
      pub v : Both by
      pub names_after : Names
      pub slots_after : Slots
      pub after : Common by
      pub in_meaning : put_behind one (meant by new) (world by f names c).store ≡ Some (
        meant by v,
        (world by f names_after after).store,
      )
      pub in_machine : put_behind (slotted one) (ran by new) (lower by (slots.below ++ slots.own ∷ []) c) ≡ Some (
        ran by v,
        lower by (slots_after.below ++ slots_after.own ∷ []) after,
      )
      pub same_lent : names_after.lent ≡ names.lent
      pub same_low : slots_after.lent ≡ slots.lent
      pub same_output : after.output ≡ c.output
      pub same_left : after.left ≡ c.left
      pub agree : Agree by f wide room scope names_after slots_after

    pub put_both : (one : ℕ × Place) (new : Both by) (names : Names) (slots : Slots) (c : Common by)
        → Agree by f wide room scope names slots
        → (put_behind one (meant by new) (world by f names c).store ≡ None) ⊎ Put one new names slots c
    put_both one new names slots c ag =
        by_base (base_there by f wide room scope distinct one.1.base names slots c1 ag)
      where
        c1 : Common by
        c1 = deed_used one.0 c

        w : effects.World Bytes ClosedType
        w = (world by f names c1).store

        m : machines.LowWorld
        m = lower by (slots.below ++ slots.own ∷ []) c1

        told : put_behind one (meant by new) (world by f names c).store ≡ exchanged one.1 (meant by new) w
        told = ap (λ store. exchanged one.1 (meant by new) store) (tells_to (as_meant by) (λ (t : ClosedType). t)
            (names.below ++ names.own ∷ []) (effects.used one.0) c.store)

        told_low : put_behind (slotted one) (ran by new) (lower by (slots.below ++ slots.own ∷ []) c)
            ≡ exchanged (place_slotted by.slot one.1) (ran by new) m
        told_low = ap (λ store. exchanged (place_slotted by.slot one.1) (ran by new) store) (tells_to (as_ran by)
            by.of (slots.below ++ slots.own ∷ []) (effects.used one.0) c.store)

        by_swapped : (there : There by f wide room scope distinct one.1.base names slots c1) → (o : Option (Both
            by × Both by)) → swapped one.1.path new (Some there.v) ≡ o
            → (put_behind one (meant by new) (world by f names c).store ≡ None) ⊎ Put one new names slots c
        by_swapped there None e =
            inl (told ∙ exchange_to (as_meant by) w one.1 new (Some there.v) there.in_meaning
            ∙ ap (λ o. option_map (λ (pair : Both by × Both by). (
              meant by pair.0,
              base_set one.1.base (meant by pair.1) w,
            )) o) e)
        by_swapped there (Some pair) e =
            inr (record {
              v = pair.0;
              names_after = record {
                below = there.names_below pair.1;
                own = there.names_own pair.1;
                lent = names.lent;
              };
              slots_after = record {
                below = there.slots_below pair.1;
                own = there.slots_own pair.1;
                lent = slots.lent;
              };
              after = record c1 { store = there.store pair.1 };
              in_meaning = told ∙ exchange_to (as_meant by) w one.1 new (Some there.v) there.in_meaning
                  ∙ ap (λ o. option_map (λ (pair : Both by × Both by). (
                    meant by pair.0,
                    base_set one.1.base (meant by pair.1) w,
                  )) o) e
                  ∙ ap (λ store. Some (meant by pair.0, store)) (there.put_meant pair.1);
              in_machine = told_low ∙ exchange_to (as_ran by) m (place_slotted by.slot one.1) new (Some there.v)
                  there.in_machine
                  ∙ ap (λ o. option_map (λ (pair : Both by × Both by). (
                    ran by pair.0,
                    base_set (place_slotted by.slot one.1).base (ran by pair.1) m,
                  )) o) e
                  ∙ ap (λ store. Some (ran by pair.0, store)) (there.put_ran pair.1);
              same_lent = refl;
              same_low = refl;
              same_output = refl;
              same_left = refl;
              agree = there.agree pair.1;
            })

        by_base : (base_at one.1.base w ≡ None) ⊎ There by f wide room scope distinct one.1.base names slots c1
            → (put_behind one (meant by new) (world by f names c).store ≡ None) ⊎ Put one new names slots c
        by_base (inl none) =
            inl (told ∙ exchange_to (as_meant by) w one.1 new None none)
        by_base (inr there) = by_swapped there (swapped one.1.path new (Some there.v)) refl

    -- ---- borrows

    -- one more borrow is open
    abbrev pub names_lent : Access → Place → Names → Common by → Names
    names_lent access place names c = record names {
      lent = record { number = c.store.borrows; access = access; place = place } ∷ names.lent;
    }

    abbrev pub slots_lent : Slots → Common by → Slots
    slots_lent slots c = record slots { lent = c.store.borrows ∷ slots.lent }

    abbrev pub deed_opened : Common by → Common by
    deed_opened c = record c { store = effects.opens c.store }

    pub lent_meant : (access : Access) (place : Place) (names : Names) (c : Common by)
        → with_borrow access place (world by f names c) ≡ world by f (names_lent access place names c) (deed_opened
        c)
    lent_meant access place names c =
        ap (λ store. record (world by f (names_lent access place names c) c) { store = store }) (opens_to (as_meant
        by) (λ (t : ClosedType). t) (names.below ++ names.own ∷ []) c.store)

    pub lent_ran : (p : ℕ) (ops : List (Both by)) (slots : Slots) (c : Common by)
        → low.borrowed (machine by f p ops slots c) ≡ machine by f p ops (slots_lent slots c) (deed_opened c)
    lent_ran p ops slots c =
        ap (λ w. machines.in_world w (machine by f p ops (slots_lent slots c) c)) (opens_to (as_ran by) by.of
        (slots.below ++ slots.own ∷ []) c.store)

    -- the place that is borrowed
    pub record Lent (mode : BorrowMode) (number slot p : ℕ) (ops : List (Both by)) (names : Names) (slots : Slots)
        (c : Common by) : Type 0 where
      pub place : Place
      pub in_meaning : borrowed_place mode number (world by f names c) ≡ Some place
      pub in_machine : low.borrowed_place (mode_in mode) slot (machine by f p ops slots c)
          ≡ Some (place_slotted by.slot place)

    pub lent_both : (mode : BorrowMode) (name : Bytes) (found : Found by scope name) (p : ℕ) (ops : List (Both by))
        (names : Names) (slots : Slots) (c : Common by) → Agree by f wide room scope names slots
        → (borrowed_place mode found.number (world by f names c) ≡ None) ⊎ Lent mode found.number found.slot p ops
        names slots c
    lent_both mode name found p ops names slots c ag = by_mode mode
      where
        same : Same by found.number found.slot names.own slots.own
        same = found.look names.own slots.own ag.held

        level : length slots.below ≡ length f.waiting
        level = level_of by f names slots ag.rest

        m : Machine
        m = machine by f p ops slots c

        there : machines.has_slot found.slot m ≡ true
        there = ap (λ all. nat_lt found.slot (length all)) (slots_are by f p ops slots c level)
            ∙ lt-ltb found.slot (length slots.own) (slice_get_within slots.own found.slot (option_map (ran by)
            same.both) same.in_slot)

        own : Place
        own = place_of found.number [] (world by f names c)

        own_is : low.slot_part found.slot [] m ≡ place_slotted by.slot own
        own_is =
            let many = levels_many by f.levels names.below slots.below ag.rest.levels in
            let frame : length f.waiting ≡ frame_in (world by f names c) = omega (
              arith,
              length-append names.below (names.own ∷ []),
              many.0,
              many.1,
              level,
            ) in
            ap₂ (λ k n. record { base = values.name_of k n; path = [] }) frame (sym (found.homed distinct))

        again : (o : Option (ℕ × Place)) → along same.both reference_in ≡ o
            → (borrowed_place borrowing.Reborrow found.number (world by f names c) ≡ None) ⊎ Lent
            borrowing.Reborrow found.number found.slot p ops names slots c
        again None e = inl (ap (λ o. along o (λ one. Some one.1)) (held_meant f found.number found.slot names slots
            c same ∙ e))
        again (Some one) e =
            inr (record {
              place = one.1;
              in_meaning = ap (λ o. along o (λ one. Some one.1)) (held_meant f found.number found.slot names slots
                  c same ∙ e);
              in_machine = ap (λ o. along o (λ one. Some one.1)) (held_ran f found.number found.slot p ops names
                  slots c level same ∙ ap (λ o. option_map slotted o) e);
            })

        by_mode : (mode : BorrowMode) → (borrowed_place mode found.number (world by f names c) ≡ None) ⊎ Lent mode
            found.number found.slot p ops names slots c
        by_mode borrowing.Read = inr (record {
          place = own;
          in_meaning = refl;
          in_machine = ap (λ b. if b then Some (low.slot_part found.slot [] m) else None) there ∙ ap Some own_is;
        })
        by_mode borrowing.Write = inr (record {
          place = own;
          in_meaning = refl;
          in_machine = ap (λ b. if b then Some (low.slot_part found.slot [] m) else None) there ∙ ap Some own_is;
        })
        by_mode borrowing.Reborrow = again (along same.both reference_in) refl
