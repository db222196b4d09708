-- Values that are taken apart: their fields go to slots, and those that are bound to names.
use Rattle.std.proofs.Common.{◌≡◌, ◌≢◌, ℕ, zero, suc, ◌+◌, ◌<◌, ◌≤◌, Bool, true, false, List, [], ◌∷◌, ◌++◌}
use Rattle.std.proofs.Common.{length, Option, Some, None, refl, sym, ap, subst, subst₂, ◌∙◌, arith, slice_get}
use Rattle.std.proofs.Common.{set, nat_lt, lt-ltb, true≢false, append_assoc, if◌then◌else◌, inl, inr}
use Rattle.std.specs.Prelude.{option_map}
use Rattle.std.specs.Str.{bytes_eq}
use Rattle.std.proofs.lemmas.List.{length-set}
use Rattle.std.proofs.lemmas.Option.{slice_get-map}
use Rattle.std.proofs.lemmas.Slice.Eq.{bytes_eq-Decides}
use Rattle.au_type_texts.specs.Types.{ClosedType}
use Rattle.au_effects.specs.Parts.{along}
use Rattle.au_low.specs.Machines as machines
use Rattle.au_low.specs.Machines.{Low}
use Rattle.au_lowered.specs.Slots.{with_fields, with_field}
use Rattle.au_meaning.specs.Acts.{with_values, bound_values}
use Rattle.au_meaning.specs.Names.{with_name, with_bound, bound_name, field_of, field_from}
use Rattle.au_meaning.specs.Views.{Field}
use Rattle.au_meaning.specs.Worlds.{Value}
use Rattle.au_syntax.specs.Plain.{Bytes}
use Rattle.au_syntax.specs.Types.{Bound}
use Rattle.au_lowered.specs.Scopes.{Entry, variable, numbers_in, slots_in, Same, Held, SlotFree, Distinct, Under}
use Rattle.au_lowered.specs.Scopes.{From, Only, InScope}
use Rattle.au_lowered.specs.Sides.{Coding, Both, Names, Slots, Common, meant, ran, all_meant, Named, Slotted}
use Rattle.au_lowered.specs.Frames.{Frame, machine, world, name_put, slot_put}
use Rattle.au_lowered.proofs.FrameLemmas.{set_same, set_other, held_name, held_slot, number_free, slot_free, under_more}
use Rattle.au_lowered.proofs.FrameLemmas.{only_set, from_less, from_both}
use Rattle.au_lowered.proofs.StepLemmas.{meant_set, ran_set, slots_are}
use Rattle.au_lowered.specs.Binds.{fields_bound}
use Rattle.au_lowered.specs.Premises.{Lacks, Once}
use Rattle.au_lowered.specs.Homes.{BindsHomed}

-- ---- the number of a field

field_within : (fields : List Field) (n : ℕ) (name : Bytes) (one : ℕ × ClosedType)
    → field_from n name fields ≡ Some one
    → (n ≤ one.0) × (one.0 < n + length fields)
field_within [] n name one e = absurd (grind arith)
field_within (first ∷ rest) n name one e = by_test (bytes_eq first.name name) refl (λ k. field_within rest
    (n + 1) name one k)
  where
    by_test : (b : Bool) → bytes_eq first.name name ≡ b
        → (field_from (n + 1) name rest ≡ Some one → (n + 1 ≤ one.0) × (one.0 < n + 1 + length rest))
        → (n ≤ one.0) × (one.0 < n + length (first ∷ rest))
    by_test true b ih =
        let is : Some (n, first.of) ≡ Some one = sym (ap (λ t. if t then Some (n, first.of) else field_from
        (n + 1) name rest) b) ∙ e in
        let same : (n, first.of) ≡ one = cc in
        let at : n ≡ one.0 = ap (λ (x : ℕ × ClosedType). x.0) same in
        (omega (arith, at), omega (arith, at))
    by_test false b ih =
        let is = ih (sym (ap (λ t. if t then Some (n, first.of) else field_from (n + 1) name rest) b)
        ∙ e) in
        (omega (arith, is.0), omega (arith, is.1))

fields_apart : (fields : List Field) (n : ℕ) (name other : Bytes) (one two : ℕ × ClosedType)
    → bytes_eq name other ≡ false
    → field_from n name fields ≡ Some one → field_from n other fields ≡ Some two → one.0 ≢ two.0
fields_apart [] n name other one two apart e g = absurd (grind arith)
fields_apart (first ∷ rest) n name other one two apart e g =
    by_tests (bytes_eq first.name name) (bytes_eq first.name other) refl refl (λ k h. fields_apart rest (n +
    1) name other one two apart k h)
  where
    by_tests : (a b : Bool) → bytes_eq first.name name ≡ a → bytes_eq first.name other ≡ b
        → (field_from (n + 1) name rest ≡ Some one → field_from (n + 1) other rest ≡ Some two
        → one.0 ≢ two.0)
        → one.0 ≢ two.0
    by_tests true true p q ih =
        let x = (bytes_eq-Decides first.name name).0 p in
        let y = (bytes_eq-Decides first.name other).0 q in
        absurd (true≢false (sym ((bytes_eq-Decides name other).1 (sym x ∙ y)) ∙ apart))
    by_tests true false p q ih =
        let is : Some (n, first.of) ≡ Some one = sym (ap (λ t. if t then Some (n, first.of) else field_from
        (n + 1) name rest) p) ∙ e in
        let same : (n, first.of) ≡ one = cc in
        let at : n ≡ one.0 = ap (λ (x : ℕ × ClosedType). x.0) same in
        let later = field_within rest (n + 1) other two (sym (ap (λ t. if t then Some (n, first.of) else
        field_from (n + 1) other rest) q) ∙ g) in
        λ k. absurd (omega (arith, at, later.0, k))
    by_tests false true p q ih =
        let is : Some (n, first.of) ≡ Some two = sym (ap (λ t. if t then Some (n, first.of) else field_from
        (n + 1) other rest) q) ∙ g in
        let same : (n, first.of) ≡ two = cc in
        let at : n ≡ two.0 = ap (λ (x : ℕ × ClosedType). x.0) same in
        let later = field_within rest (n + 1) name one (sym (ap (λ t. if t then Some (n, first.of) else
        field_from (n + 1) name rest) p) ∙ e) in
        λ k. absurd (omega (arith, at, later.0, k))
    by_tests false false p q ih =
        ih (sym (ap (λ t. if t then Some (n, first.of) else field_from (n + 1) name rest) p) ∙ e)
        (sym (ap (λ t. if t then Some (n, first.of) else field_from (n + 1) other rest) q) ∙ g)

-- ---- slots that are filled

abbrev pub filled : ℕ → List Low → Slotted → Slotted
filled slot [] slots = slots
filled slot (value ∷ rest) slots = filled (slot + 1) rest (set slots slot (Some value))

pub filled_length : (slot : ℕ) (values : List Low) (slots : Slotted) → length (filled slot values slots)
    ≡ length slots
filled_length slot [] slots = refl
filled_length slot (value ∷ rest) slots = filled_length (slot + 1) rest (set slots slot (Some value))
    ∙ length-set slots slot (Some value)

filled_before : (slot s : ℕ) (values : List Low) (slots : Slotted) → s < slot
    → slice_get (filled slot values slots) s ≡ slice_get slots s
filled_before slot s [] slots h = refl
filled_before slot s (value ∷ rest) slots h =
    filled_before (slot + 1) s rest (set slots slot (Some value)) (omega (arith, h))
    ∙ set_other slots s slot (Some value) (λ e. absurd (omega (arith, e, h)))

pub filled_at : (slot k : ℕ) (values : List Low) (slots : Slotted) (value : Low)
    → slot + length values ≤ length slots
    → slice_get values k ≡ Some value → slice_get (filled slot values slots) (slot + k) ≡ Some (Some value)
filled_at slot k [] slots value h e = absurd (grind arith)
filled_at slot zero (first ∷ rest) slots value h e =
    let same : first ≡ value = cc in
    let none : slot + 0 ≡ slot = omega arith in
    ap (λ n. slice_get (filled (slot + 1) rest (set slots slot (Some first))) n) none
    ∙ filled_before (slot + 1) slot rest (set slots slot (Some first)) (omega arith)
    ∙ set_same slots slot (Some first) (omega (arith, h))
    ∙ ap (λ v. Some (Some v)) same
filled_at slot (suc k) (first ∷ rest) slots value h e =
    let more : slot + suc k ≡ slot + 1 + k = omega arith in
    let wide : slot + 1 + length rest ≤ length (set slots slot (Some first)) = omega (
      arith,
      h,
      length-set
          slots slot (Some first),
    ) in
    ap (λ n. slice_get (filled (slot + 1) rest (set slots slot (Some first))) n) more
    ∙ filled_at (slot + 1) k rest (set slots slot (Some first)) value wide e

-- ---- names that are given

abbrev pub named : ℕ → List Value → Named → Named
named n [] names = names
named n (value ∷ rest) names = named (n + 1) rest (set names n (Some value))

-- the same of the running frame
abbrev pub all_filled : ℕ → List Low → Slots → Slots
all_filled slot values slots = record slots { own = filled slot values slots.own }

abbrev pub all_named : ℕ → List Value → Names → Names
all_named n values names = record names { own = named n values names.own }

module _ (by : Coding) (f : Frame by) where
  pub filled_is : (slot p : ℕ) (values : List Low) (ops : List (Both by)) (slots : Slots) (c : Common by)
      → length slots.below ≡ length f.waiting → slot + length values ≤ length slots.own
      → machines.slots_filled slot values (machine by f p ops slots c)
      ≡ Some (machine by f p ops (all_filled slot values slots) c)
  filled_is slot p [] ops slots c level h = refl
  filled_is slot p (value ∷ rest) ops slots c level h =
      let m = machine by f p ops slots c in
      let more = slot_put slot (Some value) slots in
      ap (λ b. if b then machines.slots_filled (slot + 1) rest (machines.slot_set slot (Some value) m) else
      None)
      (ap (λ all. nat_lt slot (length all)) (slots_are by f p ops slots c level)
      ∙ lt-ltb slot (length slots.own) (omega (arith, h)))
      ∙ ap (λ after. machines.slots_filled (slot + 1) rest after) (ran_set by f slot (Some value) p ops
      slots c level)
      ∙ filled_is (slot + 1) p rest ops more c level (omega (
        arith,
        h,
        length-set slots.own slot (Some value),
      ))

  pub named_is : (n : ℕ) (values : List Value) (names : Names) (c : Common by)
      → with_values n values (world by f names c) ≡ world by f (all_named n values names) c
  named_is n [] names c = refl
  named_is n (value ∷ rest) names c =
      ap (λ w. with_values (n + 1) rest w) (meant_set by f n (Some value) names c)
      ∙ named_is (n + 1) rest (name_put n (Some value) names) c

module _ (by : Coding) where
  pub held_filled : (scope : List (Entry by)) (number slot s : ℕ) (values : List Low) (names : Named) (slots
      : Slotted) → Under by number slot scope
      → slot ≤ s → Held by scope names slots → Held by scope names (filled s values slots)
  held_filled scope number slot s [] names slots u le h = h
  held_filled scope number slot s (value ∷ rest) names slots u le h =
      held_filled scope number slot (s + 1) rest names (set slots s (Some value)) u (omega (arith, le))
      (held_slot by scope s names slots (Some value) (slot_free by number slot s scope u le) h)

  module _ (fields : List Field) (slot : ℕ) (vs : List (Both by)) where
    -- the slots of the fields that are still to be bound are free
    abbrev pub FreeFor : List Bytes → List (Entry by) → Type 0
    FreeFor [] scope = Unit {0}
    FreeFor (name ∷ rest) scope = ((one : ℕ × ClosedType) → field_of name fields ≡ Some one
        → SlotFree by (slot + one.0) scope) × FreeFor rest scope

    pub free_first : (names : List Bytes) (number : ℕ) (scope : List (Entry by))
        → Under by number slot scope → FreeFor names scope
    free_first [] number scope u = tt
    free_first (name ∷ rest) number scope u = (
      (λ one e. slot_free by number slot (slot + one.0) scope u
          (omega arith)),
      free_first rest number scope u,
    )

    free_next : (name own : Bytes) (number : ℕ) (one : ℕ
        × ClosedType) (names : List Bytes) (scope : List (Entry by)) → field_of name fields ≡ Some one
        → Lacks name names → FreeFor names scope → FreeFor names (variable own number (slot + one.0) (Some
        one.1) ∷ scope)
    free_next name own number one [] scope e lacks free = tt
    free_next name own number one (other ∷ rest) scope e lacks free = (
      (λ two g. (
        (λ k. fields_apart fields 0 name other one two lacks.0 e g (omega (arith, k))),
        free.0 two
            g,
      )),
      free_next name own number one rest scope e lacks.1 free.1,
    )

    -- what is bound
    pub record Taken (binds : List (Bound Bytes)) (number : ℕ) (scope : List (Entry by)) (xs : List Value)
        (names : Named) (slots : Slotted) : Type 0 where
      pub new : List (Entry by)
      pub numbers_are : with_bound (Some fields) number binds (numbers_in by scope)
          ≡ numbers_in by (new ++ scope)
      pub slots_in_are : with_fields fields slot binds (slots_in by scope) ≡ slots_in by (new ++ scope)
      pub distinct : Distinct by (new ++ scope)
      pub under : Under by (number + length binds) (slot + length fields) (new ++ scope)
      pub fresh : From by number new
      pub held : Held by (new ++ scope) (named number xs names) slots
      pub only : Only by (new ++ scope) (named number xs names)
      pub wide : length (named number xs names) ≡ length names

    -- the first of what is bound
    pub record First (b : Bound Bytes) (binds : List (Bound Bytes)) (xs : List Value) : Type 0 where
      pub one : ℕ × ClosedType
      pub known : field_of b.name.name.name fields ≡ Some one
      pub v : Both by
      pub at : slice_get vs one.0 ≡ Some v
      pub ys : List Value
      pub found : bound_values fields (all_meant by vs) binds ≡ Some ys
      pub is : meant by v ∷ ys ≡ xs

    abbrev bound_by : Option Value → Option (List Value) → Option (List Value)
    bound_by value others = along value (λ v. along others (λ rest. Some (v ∷ rest)))

    first_value : (b : Bound Bytes) (binds : List (Bound Bytes)) (xs : List Value) (one : ℕ × ClosedType)
        → field_of b.name.name.name fields ≡ Some one
        → (s : Option (Both by)) → slice_get vs one.0 ≡ s → (rest : Option (List Value))
        → bound_values fields (all_meant by vs) binds ≡ rest
        → bound_by (option_map (meant by) s) rest ≡ Some xs → First b binds xs
    first_value b binds xs one known None at rest found e = absurd (grind arith)
    first_value b binds xs one known (Some v) at None found e = absurd (grind arith)
    first_value b binds xs one known (Some v) at (Some ys) found e =
        record { one = one; known = known; v = v; at = at; ys = ys; found = found; is = cc }

    first_field : (b : Bound Bytes) (binds : List (Bound Bytes)) (xs : List Value) (o : Option (ℕ
        × ClosedType))
        → field_of b.name.name.name fields ≡ o → bound_values fields (all_meant by vs) (b ∷ binds) ≡ Some xs
        → First b binds xs
    first_field b binds xs None known e =
        let no : None ≡ Some xs = sym (ap (λ o. bound_by (along o (λ one. slice_get (all_meant by vs)
        one.0)) (bound_values fields (all_meant by vs) binds)) known) ∙ e in
        absurd (grind arith)
    first_field b binds xs (Some one) known e =
        let value : along (field_of b.name.name.name fields) (λ one. slice_get (all_meant by vs) one.0)
        ≡ option_map (meant by) (slice_get vs one.0) =
        ap (λ o. along o (λ one. slice_get (all_meant by vs) one.0)) known
        ∙ slice_get-map (meant by) vs one.0 in
        first_value b binds xs one known (slice_get vs one.0) refl (bound_values fields (all_meant by vs)
        binds) refl
        (sym (ap (λ o. bound_by o (bound_values fields (all_meant by vs) binds)) value) ∙ e)

    pub take_all : (binds : List (Bound Bytes)) (number : ℕ) (scope : List (Entry by)) (xs : List Value)
        (names : Named) (slots : Slotted)
        → bound_values fields (all_meant by vs) binds ≡ Some xs → Once (fields_bound binds)
        → FreeFor (fields_bound binds) scope
        → Distinct by scope → Under by number (slot + length fields) scope
        → ((k : ℕ) (v : Both by) → slice_get vs k ≡ Some v → slice_get slots (slot + k)
        ≡ Some (Some (ran by v)))
        → number + length binds ≤ length names → BindsHomed by.slot fields number slot binds
        → Held by scope names slots → Only by scope names
        → Taken binds number scope xs names slots
    take_all [] number scope xs names slots e once free distinct under there fits homes held only =
        let none : [] ≡ xs = cc in
        let zero_more : number ≡ number + 0 = omega arith in
        record {
          new = [];
          numbers_are = refl;
          slots_in_are = refl;
          distinct = distinct;
          under = subst (λ n. Under by n (slot + length fields) scope) zero_more under;
          fresh = tt;
          held = subst (λ all. Held by scope (named number all names) slots) none held;
          only = subst (λ all. Only by scope (named number all names)) none only;
          wide = subst (λ all. length (named number all names) ≡ length names) none refl;
        }
    take_all (b ∷ binds) number scope xs names slots e once free distinct under there fits homes held only =
        let x = first_field b binds xs (field_of b.name.name.name fields) refl e in
        let own = bound_name b.name in
        let entry = variable own number (slot + x.one.0) (Some x.one.1) in
        let scope2 = entry ∷ scope in
        let names2 = set names number (Some (meant by x.v)) in
        let within = field_within fields 0 b.name.name.name x.one x.known in
        let number_is_free = number_free by number (slot + length fields) number scope under (omega arith)
        in
        let same : Same by number (slot + x.one.0) names2 slots = record {
          both = Some x.v;
          in_name = set_same names number (Some (meant by x.v)) (omega (arith, fits));
          in_slot = there x.one.0 x.v x.at;
        } in
        let more = take_all binds (number + 1) scope2 x.ys names2 slots x.found once.1
        (free_next b.name.name.name own number x.one (fields_bound binds) scope x.known once.0 free.1)
        (number_is_free, free.0 x.one x.known, homes.0 x.one x.known, distinct) (
          omega arith,
          omega (arith, within.1),
          under_more by number (slot + length fields) (number + 1)
              (slot + length fields) scope (omega arith) (omega arith) under,
        )
        there (omega (arith, fits, length-set names number (Some (meant by x.v)))) homes.1
        (same, held_name by scope number names slots (Some (meant by x.v)) number_is_free held)
        (only_set (λ m. InScope by m scope2) names number (Some (meant by x.v)) (λ m v k. inr (only m v k))
        (λ v k. inl refl)) in
        let all : more.new ++ scope2 ≡ (more.new ++ entry ∷ []) ++ scope = sym (append_assoc more.new (entry
        ∷ []) scope) in
        let count : number + 1 + length binds ≡ number + length (b ∷ binds) = omega arith in
        record {
          new = more.new ++ entry ∷ [];
          numbers_are =
              ap (λ o. with_bound (Some fields) (number + 1) binds (with_name own number (option_map (λ (one
              : ℕ × ClosedType). one.1) o) (numbers_in by scope))) x.known
              ∙ more.numbers_are ∙ ap (λ inner. numbers_in by inner) all;
          slots_in_are =
              ap (λ o. with_fields fields slot binds (with_field slot own o (slots_in by scope))) x.known
              ∙ more.slots_in_are ∙ ap (λ inner. slots_in by inner) all;
          distinct = subst (λ inner. Distinct by inner) all more.distinct;
          under = subst₂ (λ n inner. Under by n (slot + length fields) inner) count all more.under;
          fresh = from_both by number more.new (entry ∷ []) (from_less by number (number + 1) more.new (omega
              arith) more.fresh) (omega arith, tt);
          held = subst₂ (λ values inner. Held by inner (named number values names) slots) x.is all
              more.held;
          only = subst₂ (λ values inner. Only by inner (named number values names)) x.is all more.only;
          wide = subst (λ values. length (named number values names) ≡ length names) x.is (more.wide
              ∙ length-set names number (Some (meant by x.v)));
        }
