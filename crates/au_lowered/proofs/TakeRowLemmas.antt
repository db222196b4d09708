-- A value is taken apart, and names hold its fields.
use Rattle.std.proofs.Common.{◌≡◌, ℕ, ◌+◌, ◌<◌, ◌≤◌, Bool, true, false, ◌==◌, List, [], ◌∷◌, ◌++◌, length}
use Rattle.std.proofs.Common.{Option, Some, None, refl, sym, ap, ◌∙◌, arith, eqb-true, if◌then◌else◌}
use Rattle.std.specs.Prelude.{option_map}
use Rattle.std.proofs.lemmas.List.{length-map}
use Rattle.std.proofs.lemmas.Option.{slice_get-map}
use Rattle.au_type_texts.specs.Types.{ClosedType}
use Rattle.au_effects.specs.Parts.{along}
use Rattle.au_effects.specs.Values.{Fields, made, listed}
use Rattle.au_effects.specs.Worlds.{spends}
use Rattle.au_low.specs.Instructions as low
use Rattle.au_low.specs.Machines as machines
use Rattle.au_low.specs.Machines.{Machine, Next, having}
use Rattle.au_lowered.specs.Slots.{known, with_fields}
use Rattle.au_meaning.specs.Acts.{in_store, bound_values, bound_counted}
use Rattle.au_meaning.specs.Names.{with_bound}
use Rattle.au_meaning.specs.Views.{Field}
use Rattle.au_meaning.specs.Worlds.{Value}
use Rattle.au_syntax.specs.Plain.{Bytes}
use Rattle.au_syntax.specs.Types.{Bound}
use Rattle.au_lowered.specs.Maps.{fields_to}
use Rattle.au_lowered.specs.Scopes.{Entry, numbers_in, slots_in, Scoped, From}
use Rattle.au_lowered.specs.Frames.{Wide, Agree, Frame, machine, world}
use Rattle.au_lowered.specs.Sides.{as_meant, as_ran, Coding, Word, Both, Names, Slots, Common, ran}
use Rattle.au_lowered.specs.Sides.{all_meant, all_ran}
use Rattle.au_lowered.proofs.DeedLemmas.{spends_to}
use Rattle.au_lowered.proofs.FrameLemmas.{under_more}
use Rattle.au_lowered.proofs.MapLemmas.{listed_to}
use Rattle.au_lowered.specs.Binds.{fields_bound}
use Rattle.au_lowered.specs.Premises.{Once}
use Rattle.au_lowered.proofs.TakeLemmas.{filled, filled_is, filled_length, filled_at, held_filled}
use Rattle.au_lowered.proofs.TakeLemmas.{free_first, take_all, all_filled, all_named}
use Rattle.au_lowered.specs.Homes.{BindsHomed}

module _ (by : Coding) (f : Frame by) where
  -- a value with a birth is consumed
  abbrev pub consumed : Option ℕ → Common by → Common by
  consumed birth c = record c { store = spends birth c.store }

  pub consumed_meant : (birth : Option ℕ) (names : Names) (c : Common by)
      → in_store (spends birth (world by f names c).store) (world by f names c)
      ≡ world by f names (consumed birth c)
  consumed_meant birth names c =
      ap (λ store. in_store store (world by f names c)) (spends_to (as_meant by) (λ (t :
      ClosedType). t) (names.below ++ names.own ∷ []) birth c.store)

  -- its fields go to slots
  pub taken_low : (tag : ℕ) (birth : Option ℕ) (fields : Fields (Word by)) (slot p : ℕ) (slots : Slots) (c :
      Common by) (go : ℕ → Machine → Next)
      → length slots.below ≡ length f.waiting → slot + length (listed fields) ≤ length slots.own
      → low.apart (ran by (made tag birth fields)) slot (machine by f p [] slots c) go
      ≡ go tag (machine by f p [] (all_filled slot (all_ran by (listed fields)) slots) (consumed birth c))
  taken_low tag birth fields slot p slots c go level fits =
      let m = machine by f p [] slots c in
      let all = all_ran by (listed fields) in
      let wide : slot + length all ≤ length slots.own = omega (arith, fits, length-map (listed fields) (ran by))
      in
      ap (λ w. having (machines.slots_filled slot (listed (fields_to (as_ran by)
      fields)) (machines.in_world w m)) (go tag))
      (spends_to (as_ran by) by.of (slots.below ++ slots.own ∷ []) birth c.store)
      ∙ ap (λ values. having (machines.slots_filled slot values (machine by f p [] slots (consumed birth
      c))) (go tag)) (listed_to (as_ran by) fields)
      ∙ ap (λ o. having o (go tag)) (filled_is by f slot p all [] slots (consumed birth c) level wide)

-- what is bound where there are as many values as fields
pub counted_is : (fields : List Field) (held : List Value) (binds : List (Bound Bytes)) (xs : List Value)
    → bound_counted fields held binds ≡ Some xs
    → (length held ≡ length fields) × (bound_values fields held binds ≡ Some xs)
counted_is fields held binds xs e = by_count (length held == length fields) refl
  where
    by_count : (b : Bool) → (length held == length fields) ≡ b → (length held ≡ length fields)
        × (bound_values fields held binds ≡ Some xs)
    by_count false a =
        let no : None ≡ Some xs = sym (ap (λ b. if b then bound_values fields held binds else None) a)
        ∙ e in
        absurd (grind arith)
    by_count true a = (
      eqb-true (length held) (length fields) a,
      sym (ap (λ b. if b then bound_values fields held binds
          else None) a) ∙ e,
    )

-- nothing is bound where there are more values
pub none_counted : (fields : Option (List Field)) (held : List Value) (binds : List (Bound Bytes))
    → length (known fields) < length held
    → along fields (λ kn. bound_counted kn held binds) ≡ None
none_counted None held binds h = refl
none_counted (Some kn) held binds h = by_count (length held == length kn) refl
  where
    by_count : (b : Bool) → (length held == length kn) ≡ b → bound_counted kn held binds ≡ None
    by_count false a = ap (λ b. if b then bound_values kn held binds else None) a
    by_count true a = let same = eqb-true (length held) (length kn) a in absurd (omega (arith, h, same))

module _ (by : Coding) (f : Frame by) (wide : Wide) (room : ℕ) where
  -- what holds where fields were bound
  pub record Opened (fields : List Field) (number slot : ℕ) (scope : List (Entry by)) (binds : List (Bound
      Bytes)) (names : Names) (slots : Slots) : Type 0 where
    pub new : List (Entry by)
    pub fresh : From by number new
    pub numbers_are : with_bound (Some fields) number binds (numbers_in by scope)
        ≡ numbers_in by (new ++ scope)
    pub slots_in_are : with_fields fields slot binds (slots_in by scope) ≡ slots_in by (new ++ scope)
    pub scoped : Scoped by (number + length binds) (slot + length fields) (new ++ scope)
    pub agree : Agree by f wide room (new ++ scope) names slots

  pub opened : (fields : List Field) (number slot : ℕ) (scope : List (Entry by)) (binds : List (Bound
      Bytes)) (vs : List (Both by)) (xs : List Value) (names : Names) (slots : Slots)
      → bound_values fields (all_meant by vs) binds ≡ Some xs → length vs ≡ length fields
      → Once (fields_bound binds) → Scoped by number slot scope
      → BindsHomed by.slot fields number slot binds
      → number + length binds ≤ wide.count → slot + length fields ≤ room
      → Agree by f wide room scope names slots
      → Opened fields number slot scope binds (all_named number xs names) (all_filled slot (all_ran by vs)
      slots)
  opened fields number slot scope binds vs xs names slots e many once scoped homes fits rooms ag =
      let all = all_ran by vs in
      let slots2 = filled slot all slots.own in
      let enough : slot + length all ≤ length slots.own = omega (
        arith,
        rooms,
        many,
        length-map vs (ran by),
        ag.slots_are,
      ) in
      let t = take_all by fields slot vs binds number scope xs names.own slots2 e once (free_first by fields
      slot vs (fields_bound binds) number scope scoped.under) scoped.distinct
      (under_more by number slot number (slot + length fields) scope (omega arith) (omega arith)
      scoped.under)
      (λ k v at. filled_at slot k all slots.own (ran by v) enough (slice_get-map (ran by) vs k
      ∙ ap (λ o. option_map (ran by) o) at))
      (omega (arith, fits, ag.names_are)) homes
      (held_filled by scope number slot slot all names.own slots.own scoped.under (omega arith) ag.held)
      ag.only in
      record {
        new = t.new;
        fresh = t.fresh;
        numbers_are = t.numbers_are;
        slots_in_are = t.slots_in_are;
        scoped = record { distinct = t.distinct; under = t.under };
        agree = record {
          names_are = t.wide ∙ ag.names_are;
          slots_are = filled_length slot all slots.own ∙ ag.slots_are;
          held = t.held;
          only = t.only;
          rest = ag.rest;
          since = ag.since;
        };
      }
