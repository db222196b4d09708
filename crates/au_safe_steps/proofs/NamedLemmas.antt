-- What stands under names, in the order of other names.
use Rattle.std.proofs.Common.{◌≡◌, inl, inr, ℕ, suc, ◌+◌, Bool, true, false, List, [], ◌∷◌, ◌++◌, length}
use Rattle.std.proofs.Common.{Option, Some, refl, sym, ap, subst, ◌∙◌, append_assoc, arith, if◌then◌else◌, slice_get}
use Rattle.std.specs.Prelude.{None}
use Rattle.std.specs.List.{find}
use Rattle.std.specs.Str.{bytes_eq}
use Rattle.std.proofs.lemmas.Bool.{eq-eqb}
use Rattle.au_base.proofs.TextLemmas.{bytes_self, bytes_same}
use Rattle.au_effects.specs.Parts.{along}
use Rattle.au_syntax.specs.Plain.{Bytes}
use Rattle.au_syntax.specs.Types.{Bound}
use Rattle.au_types.specs.Types.{Meaning}
use Rattle.au_memory.specs.Forests.{Made}
use Rattle.au_meaning.specs.Acts.{bound_values, labelled_value, labelled_values}
use Rattle.au_meaning.specs.Expressions.{labelled}
use Rattle.au_meaning.specs.Names.{field_from}
use Rattle.au_meaning.specs.Views.{Field}
use Rattle.au_meaning.specs.Worlds.{Value}
use Rattle.au_safe_acts.specs.Making.{values_of}
use Rattle.au_safe_steps.specs.Binding.{AreUnder, FieldsAreBound, IsUnder, LabelsAreOrdered, bound_fields, field_names}
use Rattle.au_safe_steps.specs.Orders.{AreApart, IsNone, IsReordered}

abbrev One : Type 0
One = Value × Meaning

-- ---- the first value under a name

abbrev under_get : List Bytes → Made → Bytes → Option One
under_get [] vs name = None
under_get (n ∷ names) [] name = None
under_get (n ∷ names) (v ∷ vs) name = if bytes_eq n name then Some v else under_get names vs name

abbrev value_in : Option One → Option Value
value_in o = along o (λ (one : One). Some one.0)

get_own : (n : Bytes) (names : List Bytes) (v : One) (vs : Made) → under_get (n ∷ names) (v ∷ vs) n ≡ Some v
get_own n names v vs = ap (λ (b : Bool). if b then Some v else under_get names vs n) (bytes_self n)

get_other : (n : Bytes) (names : List Bytes) (v : One) (vs : Made) (name : Bytes) → (name ≡ n → ⊥)
    → under_get (n ∷ names) (v ∷ vs) name ≡ under_get names vs name
get_other n names v vs name other = by (bytes_eq n name) refl
  where
    by : (b : Bool) → bytes_eq n name ≡ b
        → (if b then Some v else under_get names vs name) ≡ under_get names vs name
    by true e = absurd (other (sym (bytes_same n name e)))
    by false e = refl

-- it is the one under the name
is_under : (names : List Bytes) (vs : Made) (name : Bytes) (one : One) → under_get names vs name ≡ Some one
    → IsUnder name names vs one
is_under [] vs name one h = absurd cc
is_under (n ∷ names) [] name one h = absurd cc
is_under (n ∷ names) (v ∷ vs) name one h = by (bytes_eq n name) refl h (λ more. is_under names vs name one more)
  where
    by : (b : Bool) → bytes_eq n name ≡ b → (if b then Some v else under_get names vs name) ≡ Some one
        → (under_get names vs name ≡ Some one → IsUnder name names vs one) → IsUnder name (n ∷ names) (v ∷ vs) one
    by true e h rest = let same : v ≡ one = cc in inl (sym (bytes_same n name e), sym same)
    by false e h rest = inr (differ, rest h)
      where
        differ : name ≡ n → ⊥
        differ same =
            let own : bytes_eq n n ≡ false = subst (λ (x : Bytes). bytes_eq n x ≡ false) same e in
            let yes = bytes_self n in
            absurd cc

-- ---- names that are apart

none_at : (front : List Bytes) (w n : Bytes) (back : List Bytes) → IsNone n (front ++ w ∷ back) → n ≡ w → ⊥
none_at [] w n back h = h.0
none_at (m ∷ front) w n back h = none_at front w n back h.1

none_left : (front : List Bytes) (w n : Bytes) (back : List Bytes) → IsNone n (front ++ w ∷ back)
    → IsNone n (front ++ back)
none_left [] w n back h = h.1
none_left (m ∷ front) w n back h = (h.0, none_left front w n back h.1)

apart_left : (front : List Bytes) (w : Bytes) (back : List Bytes) → AreApart (front ++ w ∷ back)
    → IsNone w (front ++ back) × AreApart (front ++ back)
apart_left [] w back h = (h.0, h.1)
apart_left (n ∷ front) w back h =
    let rest = apart_left front w back h.1 in
    let other = none_at front w n back h.0 in (
      (λ same. other (sym same), rest.0),
      (none_left front w n back h.0, rest.1),
    )

none_in : (ws : List Bytes) (names : List Bytes) (n : Bytes) → IsReordered ws names → IsNone n names → IsNone n ws
none_in [] names n h none = tt
none_in (w ∷ ws) names n h none =
    let there = subst (λ (xs : List Bytes). IsNone n xs) h.2 none in
    (none_at h.0 w n h.1 there, none_in ws (h.0 ++ h.1) n h.3 (none_left h.0 w n h.1 there))

-- ---- values beside names that are split

record IsCut (front : List Bytes) (w : Bytes) (back : List Bytes) (vs : Made) : Type 0 where
  before : Made
  one : One
  after : Made
  is : vs ≡ before ++ one ∷ after
  many : length (before ++ after) ≡ length (front ++ back)
  own : IsNone w front → under_get (front ++ w ∷ back) (before ++ one ∷ after) w ≡ Some one
  others : (n : Bytes) → (n ≡ w → ⊥)
      → under_get (front ++ w ∷ back) (before ++ one ∷ after) n ≡ under_get (front ++ back) (before ++ after) n

cut_at : (front : List Bytes) (w : Bytes) (back : List Bytes) (vs : Made) → length vs ≡ length (front ++ w ∷ back)
    → IsCut front w back vs
cut_at [] w back [] many = absurd (omega arith)
cut_at [] w back (v ∷ vs) many = record {
  before = [];
  one = v;
  after = vs;
  is = refl;
  many = omega arith;
  own = λ none. get_own w back v vs;
  others = λ n other. get_other w back v vs n other;
}
cut_at (m ∷ front) w back [] many = absurd (omega arith)
cut_at (m ∷ front) w back (v ∷ vs) many =
    let rest = cut_at front w back vs (omega arith) in
    let left = rest.many in
    record {
      before = v ∷ rest.before;
      one = rest.one;
      after = rest.after;
      is = ap (λ (xs : Made). v ∷ xs) rest.is;
      many = omega arith;
      own = λ none.
          get_other m (front ++ w ∷ back) v (rest.before ++ rest.one ∷ rest.after) w none.0 ∙ rest.own none.1;
      others = λ n other.
          ap (λ (o : Option One). if bytes_eq m n then Some v else o) (rest.others n other);
    }

-- ---- values in the order of other names

abbrev AllGot : List Bytes → List Bytes → Made → Made → Type 0
AllGot [] names vs [] = Unit {0}
AllGot [] names vs (one ∷ ones) = ⊥
AllGot (w ∷ ws) names vs [] = ⊥
AllGot (w ∷ ws) names vs (one ∷ ones) = (under_get names vs w ≡ Some one) × AllGot ws names vs ones

got_more : (ws : List Bytes) (w : Bytes) (names left : List Bytes) (vs us ones : Made) → IsNone w ws
    → ((n : Bytes) → (n ≡ w → ⊥) → under_get names vs n ≡ under_get left us n) → AllGot ws left us ones
    → AllGot ws names vs ones
got_more [] w names left vs us [] none same h = tt
got_more [] w names left vs us (one ∷ ones) none same h = absurd h
got_more (x ∷ ws) w names left vs us [] none same h = absurd h
got_more (x ∷ ws) w names left vs us (one ∷ ones) none same h =
    (same x (λ e. none.0 (sym e)) ∙ h.0, got_more ws w names left vs us ones none.1 same h.1)

record InOrder (ws names : List Bytes) (vs : Made) : Type 0 where
  ones : Made
  got : AllGot ws names vs ones
  order : IsReordered ones vs

in_order : (ws names : List Bytes) (vs : Made) → length vs ≡ length names → AreApart names → IsReordered ws names
    → InOrder ws names vs
in_order [] names [] many apart h = record { ones = []; got = tt; order = refl }
in_order [] names (v ∷ vs) many apart h = let none = ap (λ (xs : List Bytes). length xs) h in absurd (omega arith)
in_order (w ∷ ws) names vs many apart h =
    let front = h.0 in
    let back = h.1 in
    let is = h.2 in
    let count : length vs ≡ length (front ++ w ∷ back) = many ∙ ap (λ (xs : List Bytes). length xs) is in
    let cut = cut_at front w back vs count in
    let left = apart_left front w back (subst AreApart is apart) in
    let rest = in_order ws (front ++ back) (cut.before ++ cut.after) cut.many left.1 h.3 in
    let own : under_get names vs w ≡ Some cut.one =
    ap (λ (xs : List Bytes). under_get xs vs w) is
    ∙ ap (λ (xs : Made). under_get (front ++ w ∷ back) xs w) cut.is ∙ cut.own (none_front front back w left.0) in
    record {
      ones = cut.one ∷ rest.ones;
      got = (
        own,
        got_more ws w names (front ++ back) vs (cut.before ++ cut.after) rest.ones
            (none_in ws (front ++ back) w h.3 left.0)
            (λ n other. ap (λ (xs : List Bytes). under_get xs vs n) is
            ∙ ap (λ (xs : Made). under_get (front ++ w ∷ back) xs n) cut.is ∙ cut.others n other) rest.got,
      );
      order = (cut.before, cut.after, cut.is, rest.order);
    }
  where
    none_front : (front back : List Bytes) (w : Bytes) → IsNone w (front ++ back) → IsNone w front
    none_front [] back w none = tt
    none_front (n ∷ front) back w none = (none.0, none_front front back w none.1)

are_under : (ws names : List Bytes) (vs ones : Made) → AllGot ws names vs ones → AreUnder ws names vs ones
are_under [] names vs [] h = tt
are_under [] names vs (one ∷ ones) h = absurd h
are_under (w ∷ ws) names vs [] h = absurd h
are_under (w ∷ ws) names vs (one ∷ ones) h =
    (is_under names vs w one h.0, are_under ws names vs ones h.1)

-- ---- labels

label_got : (names : List Bytes) (vs : Made) (name : Bytes)
    → labelled_value (labelled names (values_of vs)) name ≡ value_in (under_get names vs name)
label_got [] vs name = refl
label_got (n ∷ names) [] name = refl
label_got (n ∷ names) (v ∷ vs) name = by (bytes_eq n name) (label_got names vs name)
  where
    by : (b : Bool) → labelled_value (labelled names (values_of vs)) name ≡ value_in (under_get names vs name)
        → along (if b then Some (n, v.0)
        else find (λ (one : Bytes × Value). bytes_eq one.0 name) (labelled names (values_of vs)))
        (λ (one : Bytes × Value). Some one.1)
        ≡ value_in (if b then Some v else under_get names vs name)
    by true rest = refl
    by false rest = rest

labels_got : (ws names : List Bytes) (vs ones : Made) → AllGot ws names vs ones
    → labelled_values (labelled names (values_of vs)) ws ≡ Some (values_of ones)
labels_got [] names vs [] h = refl
labels_got [] names vs (one ∷ ones) h = absurd h
labels_got (w ∷ ws) names vs [] h = absurd h
labels_got (w ∷ ws) names vs (one ∷ ones) h =
    ap (λ (o : Option Value). along o (λ value.
    along (labelled_values (labelled names (values_of vs)) ws) (λ rest. Some (value ∷ rest))))
    (label_got names vs w ∙ ap value_in h.0)
    ∙ ap (λ (o : Option (List Value)). along o (λ rest. Some (one.0 ∷ rest))) (labels_got ws names vs ones h.1)

order_length : {A : Type 0} (xs ys : List A) → IsReordered xs ys → length xs ≡ length ys
order_length [] ys h = sym (ap (λ (zs : List _). length zs) h)
order_length (x ∷ xs) ys h =
    let rest = order_length xs (h.0 ++ h.1) h.3 in
    let all = ap (λ (zs : List _). length zs) h.2 in
    let one = both h.0 (x ∷ h.1) in
    let two = both h.0 h.1 in
    omega arith
  where
    both : {B : Type 0} (us vs : List B) → length (us ++ vs) ≡ length us + length vs
    both [] vs = omega arith
    both (u ∷ us) vs = let more = both us vs in omega arith

labelled_length : (names : List Bytes) (vs : Made) → length vs ≡ length names
    → length (labelled names (values_of vs)) ≡ length names
labelled_length [] vs many = refl
labelled_length (n ∷ names) [] many = absurd (omega arith)
labelled_length (n ∷ names) (v ∷ vs) many = let rest = labelled_length names vs (omega arith) in omega arith

pub labels_are_ordered : LabelsAreOrdered
labels_are_ordered labels params vs many apart order =
    let done = in_order params labels vs many apart order in
    let count : length (labelled labels (values_of vs)) ≡ length params =
    labelled_length labels vs many ∙ sym (order_length params labels order) in (
      done.ones,
      ap (λ (b : Bool). if b then labelled_values (labelled labels (values_of vs)) params else None)
          (eq-eqb (length (labelled labels (values_of vs))) (length params) count)
          ∙ labels_got params labels vs done.ones done.got,
      done.order,
      are_under params labels vs done.ones done.got,
    )

-- ---- fields

get_at : (front : List Value) (v : Value) (back : List Value) → slice_get (front ++ v ∷ back) (length front) ≡ Some v
get_at [] v back = refl
get_at (x ∷ front) v back = get_at front v back

length_snoc : (xs : List Value) (x : Value) → length (xs ++ x ∷ []) ≡ length xs + 1
length_snoc [] x = refl
length_snoc (y ∷ ys) x = let rest = length_snoc ys x in omega arith

field_got : (fields : List Field) (vs : Made) (front : List Value) (k : ℕ) (name : Bytes) → k ≡ length front
    → length vs ≡ length fields
    → along (field_from k name fields) (λ one. slice_get (front ++ values_of vs) one.0)
    ≡ value_in (under_get (field_names fields) vs name)
field_got [] vs front k name at many = refl
field_got (f ∷ fields) [] front k name at many = absurd (omega arith)
field_got (f ∷ fields) (v ∷ vs) front k name at many =
    let count = length_snoc front v.0 in
    let later =
    ap (λ (xs : List Value). along (field_from (k + 1) name fields) (λ one. slice_get xs one.0))
    (sym (append_assoc front (v.0 ∷ []) (values_of vs)))
    ∙ field_got fields vs (front ++ v.0 ∷ []) (k + 1) name (omega arith) (omega arith) in
    by (bytes_eq f.name name) later
  where
    by : (b : Bool)
        → along (field_from (k + 1) name fields) (λ one. slice_get (front ++ v.0 ∷ values_of vs) one.0)
        ≡ value_in (under_get (field_names fields) vs name)
        → along (if b then Some (k, f.of) else field_from (k + 1) name fields)
        (λ one. slice_get (front ++ v.0 ∷ values_of vs) one.0)
        ≡ value_in (if b then Some v else under_get (field_names fields) vs name)
    by true later = ap (λ (i : ℕ). slice_get (front ++ v.0 ∷ values_of vs) i) at ∙ get_at front v.0 (values_of vs)
    by false later = later

fields_got : (fields : List Field) (vs : Made) (binds : List (Bound Bytes)) (ones : Made)
    → length vs ≡ length fields → AllGot (bound_fields binds) (field_names fields) vs ones
    → bound_values fields (values_of vs) binds ≡ Some (values_of ones)
fields_got fields vs [] [] many h = refl
fields_got fields vs [] (one ∷ ones) many h = absurd h
fields_got fields vs (b ∷ binds) [] many h = absurd h
fields_got fields vs (b ∷ binds) (one ∷ ones) many h =
    ap (λ (o : Option Value). along o (λ value.
    along (bound_values fields (values_of vs) binds) (λ others. Some (value ∷ others))))
    (field_got fields vs [] 0 b.name.name.name refl many ∙ ap value_in h.0)
    ∙ ap (λ (o : Option (List Value)). along o (λ others. Some (one.0 ∷ others)))
    (fields_got fields vs binds ones many h.1)

values_length : (vs : Made) → length (values_of vs) ≡ length vs
values_length [] = refl
values_length (v ∷ vs) = ap suc (values_length vs)

names_length : (fields : List Field) → length (field_names fields) ≡ length fields
names_length [] = refl
names_length (f ∷ fields) = ap suc (names_length fields)

pub fields_are_bound : FieldsAreBound
fields_are_bound fields parts binds many apart order =
    let done = in_order (bound_fields binds) (field_names fields) parts (many ∙ sym (names_length fields)) apart order in (
      done.ones,
      ap (λ (b : Bool). if b then bound_values fields (values_of parts) binds else None)
          (eq-eqb (length (values_of parts)) (length fields) (values_length parts ∙ many))
          ∙ fields_got fields parts binds done.ones many done.got,
      done.order,
      are_under (bound_fields binds) (field_names fields) parts done.ones done.got,
    )
