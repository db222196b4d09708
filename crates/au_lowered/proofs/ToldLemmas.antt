-- A union is told apart, or one behind a reference.
use Rattle.std.proofs.Common.{◌≡◌, ◌⊎◌, inl, inr, ℕ, zero, suc, ◌+◌, ◌≤◌, List, [], ◌∷◌, ◌++◌, length, Option, Some}
use Rattle.std.proofs.Common.{None, refl, ap, ap₂, ◌∙◌, arith}
use Rattle.std.proofs.lemmas.List.{length-map}
use Rattle.au_type_texts.specs.Types.{ClosedType}
use Rattle.au_effects.specs.Cases.{fields_behind, case_behind, told_apart}
use Rattle.au_effects.specs.Parts.{along}
use Rattle.au_effects.specs.References.{referring, reference_along, read_behind}
use Rattle.au_effects.specs.Values as values
use Rattle.au_effects.specs.Values.{Place, Fields, listed}
use Rattle.au_effects.specs.Worlds as effects
use Rattle.au_low.specs.Instructions as low
use Rattle.au_low.specs.Machines as machines
use Rattle.au_low.specs.Machines.{Machine, Next, having}
use Rattle.au_meaning.specs.Worlds.{Value}
use Rattle.au_syntax.specs.Plain.{Bytes}
use Rattle.au_lowered.specs.Maps.{Change, value_to, fields_to}
use Rattle.au_lowered.specs.Frames.{Frame, Wide, Agree, machine, world}
use Rattle.au_lowered.specs.Scopes.{Entry, Distinct}
use Rattle.au_lowered.specs.Sides.{as_meant, as_ran, lower, Coding, Word, Both, Names, Slots, Common, meant, ran}
use Rattle.au_lowered.specs.Sides.{all_meant, all_ran}
use Rattle.au_lowered.proofs.DeedLemmas.{spends_to}
use Rattle.au_lowered.proofs.LevelLemmas.{level_of}
use Rattle.au_lowered.proofs.MapLemmas.{listed_to}
use Rattle.au_lowered.proofs.ReferenceLemmas.{slotted, deed_used, Read, read_both}
use Rattle.au_lowered.proofs.TakeLemmas.{all_filled, filled_is}

module _ (by : Coding) where
  -- references to fields are pictures of references
  fields_meant : (one : ℕ × Place) (number count : ℕ)
      → fields_behind one number count ≡ all_meant by (fields_behind one number count)
  fields_meant one number zero = refl
  fields_meant one number (suc count) = ap (λ rest. referring (reference_along one (number ∷ [])) ∷ rest)
      (fields_meant one (number + 1) count)

  fields_ran : (one : ℕ × Place) (number count : ℕ)
      → fields_behind (slotted by one) number count ≡ all_ran by (fields_behind one number count)
  fields_ran one number zero = refl
  fields_ran one number (suc count) = ap (λ rest. referring (reference_along (slotted by one) (number ∷ [])) ∷ rest)
      (fields_ran one (number + 1) count)

  module _ (f : Frame by) (wide : Wide) (room : ℕ) (scope : List (Entry by)) (distinct : Distinct by scope) where
    -- a value is told apart into a case and fields
    pub record Told (v : Both by) (names : Names) (slots : Slots) (c : Common by) : Type 0 where
      pub tag : ℕ
      pub fields : List (Both by)
      pub store : effects.World (Word by) ClosedType
      pub in_meaning : told_apart (meant by v) (world by f names c).store
          ≡ Some ((tag, all_meant by fields), (world by f names (record c { store = store })).store)
      pub in_machine : told_apart (ran by v) (lower by (slots.below ++ slots.own ∷ []) c)
          ≡ Some ((tag, all_ran by fields), lower by (slots.below ++ slots.own ∷ []) (record c { store = store }))

    abbrev ToldOrNot : Both by → Names → Slots → Common by → Type 0
    ToldOrNot v names slots c = (told_apart (meant by v) (world by f names c).store ≡ None) ⊎ Told v names slots c

    -- a value of a union
    made_told : (tag : ℕ) (birth : Option ℕ) (fields : Fields (Word by)) (names : Names) (slots : Slots) (c : Common
        by) → Told (values.made tag birth fields) names slots c
    made_told tag birth fields names slots c = record {
      tag = tag;
      fields = listed fields;
      store = effects.spends birth c.store;
      in_meaning = ap₂ (λ all w. Some ((tag, all), w)) (listed_to (as_meant by) fields) (spends_to (as_meant by) (λ
          (t : ClosedType). t) (names.below ++ names.own ∷ []) birth c.store);
      in_machine = ap₂ (λ all w. Some ((tag, all), w)) (listed_to (as_ran by) fields) (spends_to (as_ran by) by.of
          (slots.below ++ slots.own ∷ []) birth c.store);
    }

    -- what is done with what is read behind a reference
    abbrev behind : {T B : Type 0} → ℕ × Place → Option (values.Value T × effects.World T B)
        → Option ((ℕ × List (values.Value T)) × effects.World T B)
    behind {T} {B} one o = along {B = (ℕ × List (values.Value T)) × effects.World T B} o (λ pair. along {B = (ℕ × List
        (values.Value T)) × effects.World T B} (case_behind one pair.0) (λ parts. Some (parts, pair.1)))

    as_many : {S : Type 0} (g : Change (Word by) S) (fields : Fields (Word by)) → length (listed (fields_to g fields))
        ≡ length (listed fields)
    as_many g fields = ap (λ all. length all) (listed_to g fields) ∙ length-map (listed fields) (value_to g)

    module _ (borrow : ℕ) (place : Place) (names : Names) (slots : Slots) (c : Common by) (read : Read by f wide room
        scope distinct (borrow, place) names slots c) where
      -- what was read, with the world after the use
      abbrev meant_read : Both by → Option ((ℕ × List Value) × effects.World Bytes ClosedType)
      meant_read v = behind (borrow, place) (Some (meant by v, (world by f names (deed_used by borrow c)).store))

      abbrev ran_read : Both by → Option ((ℕ × List (values.Value ℕ)) × machines.LowWorld)
      ran_read v = behind (slotted by (borrow, place)) (Some (
        ran by v,
        lower by (slots.below ++ slots.own ∷ []) (deed_used by borrow c),
      ))

      -- it isn't told apart
      not_told : (v : Both by) → read.v ≡ v → meant_read v ≡ None
          → ToldOrNot (values.reference borrow place) names slots c
      not_told v e none = inl (ap (λ o. behind (borrow, place) o) read.in_meaning ∙ ap (λ x. meant_read x) e ∙ none)

      read_told : (v : Both by) → read.v ≡ v → ToldOrNot (values.reference borrow place) names slots c
      read_told (values.made tag birth fields) e =
          let one : ℕ × Place = (borrow, place) in
          let many = length (listed fields) in
          let after = (world by f names (deed_used by borrow c)).store in
          let after_low = lower by (slots.below ++ slots.own ∷ []) (deed_used by borrow c) in
          inr (record {
            tag = tag;
            fields = fields_behind one 0 many;
            store = effects.tells (effects.used borrow) c.store;
            in_meaning = ap (λ o. behind one o) read.in_meaning ∙ ap (λ x. meant_read x) e
                ∙ ap (λ n. Some ((tag, fields_behind one 0 n), after)) (as_many (as_meant by) fields)
                ∙ ap (λ all. Some ((tag, all), after)) (fields_meant one 0 many);
            in_machine = ap (λ o. behind (slotted by one) o) read.in_machine ∙ ap (λ x. ran_read x) e
                ∙ ap (λ n. Some ((tag, fields_behind (slotted by one) 0 n), after_low)) (as_many (as_ran by) fields)
                ∙ ap (λ all. Some ((tag, all), after_low)) (fields_ran one 0 many);
          })
      read_told values.unit e = not_told values.unit e refl
      read_told (values.truth b) e = not_told (values.truth b) e refl
      read_told (values.number kind z) e = not_told (values.number kind z) e refl
      read_told (values.text t) e = not_told (values.text t) e refl
      read_told (values.reference other at) e = not_told (values.reference other at) e refl
      read_told (values.box id) e = not_told (values.box id) e refl
      read_told (values.buffer id) e = not_told (values.buffer id) e refl
      read_told (values.terminal id) e = not_told (values.terminal id) e refl
      read_told (values.root id) e = not_told (values.root id) e refl

    -- a value is told apart on both sides, or no rule applies in the meaning
    pub told_both : (v : Both by) (names : Names) (slots : Slots) (c : Common by) → Agree by f wide room scope names
        slots → ToldOrNot v names slots c
    told_both values.unit names slots c ag = inl refl
    told_both (values.truth b) names slots c ag = inl refl
    told_both (values.number kind z) names slots c ag = inl refl
    told_both (values.text t) names slots c ag = inl refl
    told_both (values.made tag birth fields) names slots c ag = inr (made_told tag birth fields names slots c)
    told_both (values.reference borrow place) names slots c ag =
        by_read (read_both by f wide room scope distinct (borrow, place) names slots c ag)
      where
        by_read : (read_behind (borrow, place) (world by f names c).store ≡ None) ⊎ Read by f wide room scope distinct
            (borrow, place) names slots c
            → ToldOrNot (values.reference borrow place) names slots c
        by_read (inl none) = inl (ap (λ o. behind (borrow, place) o) none)
        by_read (inr read) = read_told borrow place names slots c read read.v refl
    told_both (values.box id) names slots c ag = inl refl
    told_both (values.buffer id) names slots c ag = inl refl
    told_both (values.terminal id) names slots c ag = inl refl
    told_both (values.root id) names slots c ag = inl refl

    -- the fields go to slots
    pub told_low : (v : Both by) (slot p : ℕ) (names : Names) (slots : Slots) (c : Common by) (go : ℕ → Machine → Next)
        → Agree by f wide room scope names slots
        → (told : Told v names slots c) → slot + length told.fields ≤ length slots.own
        → low.tells_apart (ran by v) slot (machine by f p [] slots c) go
        ≡ go told.tag (machine by f p [] (all_filled slot (all_ran by told.fields) slots) (record c { store = told.store }))
    told_low v slot p names slots c go ag told fits =
        let m = machine by f p [] slots c in
        let all = all_ran by told.fields in
        let enough : slot + length all ≤ length slots.own = omega (arith, fits, length-map told.fields (ran by)) in
        ap (λ o. having o (λ one. having (machines.slots_filled slot one.0.1 (machines.in_world one.1 m)) (go one.0.0)))
        told.in_machine
        ∙ ap (λ o. having o (go told.tag)) (filled_is by f slot p all [] slots (record c { store = told.store }) (level_of
        by f names slots ag.rest) enough)
