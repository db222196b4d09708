-- Names that stand once each, in another order.
use Rattle.std.proofs.Common.{◌≡◌, ◌⊎◌, inl, inr, ℕ, zero, suc, ◌+◌, ◌==◌, ◌||◌, Bool, true, false, cond}
use Rattle.std.proofs.Common.{true≢false, List}
use Rattle.std.proofs.Common.{[], ◌∷◌, ◌++◌, find, Some, refl, sym, ap, ◌∙◌, subst, arith}
use Rattle.std.specs.Prelude.{slice_get}
use Rattle.std.specs.List.{count_by, list_all, list_any}
use Rattle.std.specs.Option.{option_map}
use Rattle.std.specs.Str.{bytes_eq}
use Rattle.std.proofs.lemmas.Bool.{and_parts, eqb-true}
use Rattle.std.proofs.lemmas.List.Sums.{sum_by-cons}
use Rattle.std.proofs.lemmas.Option.{none-some, same_Some}
use Rattle.std.proofs.lemmas.Slice.Eq.{bytes_eq-Decides}
use Rattle.au_syntax.specs.Plain.{Bytes}
use Rattle.au_typing.specs.Lookups.{type_of_name}
use Rattle.au_typing.specs.Parts.{each_once}
use Rattle.au_typing.specs.Scopes.{Typed}
use Rattle.au_safe_steps.specs.Orders.{AreApart, IsNone, IsReordered}
use Rattle.au_judged_bodies.specs.Rounds.{names_of}

-- a name stands in a list
abbrev pub In : Bytes → List Bytes → Type 0
In name [] = ⊥
In name (other ∷ rest) = (name ≡ other) ⊎ In name rest

pub self_is : (name : Bytes) → bytes_eq name name ≡ true
self_is name = (bytes_eq-Decides name name).1 refl

either_true : (a b : Bool) → a || b ≡ true → (a ≡ true) ⊎ (b ≡ true)
either_true true b e = inl refl
either_true false b e = inr e

pub is_in : (name : Bytes) (all : List Bytes) → list_any (bytes_eq name) all ≡ true → In name all
is_in name [] e = absurd (true≢false (sym e))
is_in name (other ∷ rest) e =
    by (either_true (bytes_eq name other) (list_any (bytes_eq name) rest) e) (is_in name rest)
  where
    by : (bytes_eq name other ≡ true) ⊎ (list_any (bytes_eq name) rest ≡ true)
        → (list_any (bytes_eq name) rest ≡ true → In name rest) → In name (other ∷ rest)
    by (inl here) more = inl ((bytes_eq-Decides name other).0 here)
    by (inr later) more = inr (more later)

-- ---- how often

times_more : (name other : Bytes) (rest : List Bytes)
    → count_by (bytes_eq name) (other ∷ rest) ≡ cond (bytes_eq name other) 1 0 + count_by (bytes_eq name) rest
times_more name other rest = sum_by-cons (λ x. cond (bytes_eq name x) 1 0) other rest

less_one : (a : ℕ) → 1 + a ≡ 1 → a ≡ 0
less_one a e = omega (arith, e)

none_more : (a n : ℕ) → 0 + a ≡ n → a ≡ n
none_more a n e = omega (arith, e)

no_more : (a : ℕ) → 1 + a ≡ 0 → ⊥
no_more a e = omega (arith, e)

no_one : (a : ℕ) → a ≡ 0 → a ≡ 1 → ⊥
no_one a e f = omega (arith, e, f)

counted : (name other : Bytes) (rest : List Bytes) (b : Bool) (n : ℕ) → bytes_eq name other ≡ b
    → count_by (bytes_eq name) (other ∷ rest) ≡ n → cond b 1 0 + count_by (bytes_eq name) rest ≡ n
counted name other rest b n is e =
    ap (λ c. cond c 1 0 + count_by (bytes_eq name) rest) (sym is) ∙ sym (times_more name other rest) ∙ e

-- what stands somewhere isn't met never
not_none : (name : Bytes) (all : List Bytes) → count_by (bytes_eq name) all ≡ 0 → In name all → ⊥
not_none name [] e is = is
not_none name (other ∷ rest) e is = by (bytes_eq name other) refl is (not_none name rest)
  where
    by : (b : Bool) → bytes_eq name other ≡ b → (name ≡ other) ⊎ In name rest
        → (count_by (bytes_eq name) rest ≡ 0 → In name rest → ⊥) → ⊥
    by true found is later = no_more (count_by (bytes_eq name) rest) (counted name other rest true 0 found e)
    by false found (inl same) later =
        true≢false (sym ((bytes_eq-Decides name other).1 same) ∙ found)
    by false found (inr more) later =
        later (none_more (count_by (bytes_eq name) rest) 0 (counted name other rest false 0 found e)) more

-- what is met once stands somewhere
once_in : (name : Bytes) (all : List Bytes) → count_by (bytes_eq name) all ≡ 1 → In name all
once_in name [] e = absurd (no_one (count_by (bytes_eq name) []) refl e)
once_in name (other ∷ rest) e = by (bytes_eq name other) refl (once_in name rest)
  where
    by : (b : Bool) → bytes_eq name other ≡ b → (count_by (bytes_eq name) rest ≡ 1 → In name rest)
        → In name (other ∷ rest)
    by true found later = inl ((bytes_eq-Decides name other).0 found)
    by false found later =
        inr (later (none_more (count_by (bytes_eq name) rest) 1 (counted name other rest false 1 found e)))

-- what the test of names says
each_counted : (names others : List Bytes) → list_all (λ name. count_by (bytes_eq name) others == 1) names ≡ true
    → (one : Bytes) → In one names → count_by (bytes_eq one) others ≡ 1
each_counted [] others e one is = absurd is
each_counted (name ∷ rest) others e one is =
    by is (and_parts (count_by (bytes_eq name) others == 1)
    (list_all (λ name. count_by (bytes_eq name) others == 1) rest) e) (λ more. each_counted rest others more one)
  where
    by : (one ≡ name) ⊎ In one rest
        → ((count_by (bytes_eq name) others == 1) ≡ true)
        × (list_all (λ name. count_by (bytes_eq name) others == 1) rest ≡ true)
        → (list_all (λ name. count_by (bytes_eq name) others == 1) rest ≡ true → In one rest
        → count_by (bytes_eq one) others ≡ 1) → count_by (bytes_eq one) others ≡ 1
    by (inl same) both so =
        subst (λ x. count_by (bytes_eq x) others ≡ 1) (sym same)
        (eqb-true (count_by (bytes_eq name) others) 1 both.0)
    by (inr later) both so = so both.1 later

each_among : (names others : List Bytes) → list_all (λ other. list_any (bytes_eq other) names) others ≡ true
    → (one : Bytes) → In one others → In one names
each_among names [] e one is = absurd is
each_among names (other ∷ rest) e one is =
    by is (and_parts (list_any (bytes_eq other) names)
    (list_all (λ other. list_any (bytes_eq other) names) rest) e) (λ more. each_among names rest more one)
  where
    by : (one ≡ other) ⊎ In one rest
        → (list_any (bytes_eq other) names ≡ true)
        × (list_all (λ other. list_any (bytes_eq other) names) rest ≡ true)
        → (list_all (λ other. list_any (bytes_eq other) names) rest ≡ true → In one rest → In one names) → In one names
    by (inl same) both so = subst (λ x. In x names) (sym same) (is_in other names both.0)
    by (inr later) both so = so both.1 later

-- ---- a list without one of its names

none_is : (name other : Bytes) (all : List Bytes) → IsNone name all → In other all → name ≡ other → ⊥
none_is name other [] apart is same = is
none_is name other (x ∷ rest) apart (inl here) same = apart.0 (same ∙ here)
none_is name other (x ∷ rest) apart (inr later) same = none_is name other rest apart.1 later same

is_none : (name : Bytes) (all : List Bytes) → ((other : Bytes) → In other all → name ≡ other → ⊥) → IsNone name all
is_none name [] apart = tt
is_none name (x ∷ rest) apart = (apart x (inl refl), is_none name rest (λ other is. apart other (inr is)))

record Without (x : Bytes) (names : List Bytes) : Type 0 where
  before : List Bytes
  behind : List Bytes
  whole : names ≡ before ++ x ∷ behind
  apart : AreApart (before ++ behind)
  stays : (y : Bytes) → In y names → (y ≡ x → ⊥) → In y (before ++ behind)
  was : (y : Bytes) → In y (before ++ behind) → In y names × (y ≡ x → ⊥)

without : (x : Bytes) (names : List Bytes) → AreApart names → In x names → Without x names
without x [] apart is = absurd is
without x (n ∷ rest) apart (inl here) = record {
  before = [];
  behind = rest;
  whole = ap (λ a. a ∷ rest) (sym here);
  apart = apart.1;
  stays = λ y is other. by y is other;
  was = λ y is. (inr is, λ same. none_is n y rest apart.0 is (sym here ∙ sym same));
}
  where
    by : (y : Bytes) → (y ≡ n) ⊎ In y rest → (y ≡ x → ⊥) → In y rest
    by y (inl same) other = absurd (other (same ∙ sym here))
    by y (inr later) other = later
without x (n ∷ rest) apart (inr later) = by (without x rest apart.1 later)
  where
    by : Without x rest → Without x (n ∷ rest)
    by w = record {
      before = n ∷ w.before;
      behind = w.behind;
      whole = ap (λ l. n ∷ l) w.whole;
      apart = (
        is_none n (w.before ++ w.behind) (λ other is same. none_is n other rest apart.0 (w.was other is).0 same),
        w.apart,
      );
      stays = λ y is other. stays_so y is other;
      was = λ y is. was_so y is;
    }
      where
        stays_so : (y : Bytes) → (y ≡ n) ⊎ In y rest → (y ≡ x → ⊥) → (y ≡ n) ⊎ In y (w.before ++ w.behind)
        stays_so y (inl same) other = inl same
        stays_so y (inr more) other = inr (w.stays y more other)

        was_so : (y : Bytes) → (y ≡ n) ⊎ In y (w.before ++ w.behind) → ((y ≡ n) ⊎ In y rest) × (y ≡ x → ⊥)
        was_so y (inl same) = (inl same, λ is. none_is n x rest apart.0 later (sym same ∙ is))
        was_so y (inr more) = let its = w.was y more in (inr its.0, its.1)

no_names : (names : List Bytes) → ((one : Bytes) → In one names → count_by (bytes_eq one) [] ≡ 1) → names ≡ []
no_names [] once = refl
no_names (n ∷ rest) once = absurd (no_one (count_by (bytes_eq n) []) refl (once n (inl refl)))

-- Names that are apart, each of which stands once among others, which have no name besides, are these in
-- another order.
reordered : (others names : List Bytes) → AreApart names
    → ((one : Bytes) → In one names → count_by (bytes_eq one) others ≡ 1)
    → ((one : Bytes) → In one others → In one names) → IsReordered others names
reordered [] names apart once among = no_names names once
reordered (x ∷ xs) names apart once among =
    by (without x names apart (among x (inl refl))) (λ l. reordered xs l)
  where
    left_over : count_by (bytes_eq x) xs ≡ 0
    left_over =
        less_one (count_by (bytes_eq x) xs) (counted x x xs true 1 (self_is x) (once x (among x (inl refl))))

    by : Without x names
        → ((l : List Bytes) → AreApart l → ((one : Bytes) → In one l → count_by (bytes_eq one) xs ≡ 1)
        → ((one : Bytes) → In one xs → In one l) → IsReordered xs l) → IsReordered (x ∷ xs) names
    by w later = (
      w.before,
      w.behind,
      w.whole,
      later (w.before ++ w.behind) w.apart (λ one is. once_so one (w.was one is))
          (λ one is. w.stays one (among one (inr is))
          (λ same. not_none x xs left_over (subst (λ y. In y xs) same is))),
    )
      where
        once_so : (one : Bytes) → In one names × (one ≡ x → ⊥) → count_by (bytes_eq one) xs ≡ 1
        once_so one its = so (bytes_eq one x) refl
          where
            so : (b : Bool) → bytes_eq one x ≡ b → count_by (bytes_eq one) xs ≡ 1
            so true found = absurd (its.1 ((bytes_eq-Decides one x).0 found))
            so false found =
                none_more (count_by (bytes_eq one) xs) 1 (counted one x xs false 1 found (once one its.0))

pub once_reordered : (names others : List Bytes) → AreApart names → each_once names others ≡ true
    → IsReordered others names
once_reordered names others apart e =
    let both = and_parts (list_all (λ name. count_by (bytes_eq name) others == 1) names)
    (list_all (λ other. list_any (bytes_eq other) names) others) e in
    reordered others names apart (each_counted names others both.0) (each_among names others both.1)

pub each_there : (names others : List Bytes) → each_once names others ≡ true → (one : Bytes) → In one names
    → In one others
each_there names others e one is =
    let both = and_parts (list_all (λ name. count_by (bytes_eq name) others == 1) names)
    (list_all (λ other. list_any (bytes_eq other) names) others) e in
    once_in one others (each_counted names others both.0 one is)

-- ---- fields by their names

pub field_in : (fields : List Typed) (i : ℕ) (one : Typed) → slice_get fields i ≡ Some one
    → In one.name (names_of fields)
field_in [] i one e = absurd (none-some one e)
field_in (f ∷ rest) zero one e = inl (ap (λ (x : Typed). x.name) (sym (same_Some f one e)))
field_in (f ∷ rest) (suc i) one e = inr (field_in rest i one e)

-- of fields whose names are apart, each is found by its name
pub found_apart : (fields : List Typed) → AreApart (names_of fields) → (i : ℕ) (one : Typed)
    → slice_get fields i ≡ Some one → type_of_name one.name fields ≡ Some one.of
found_apart [] apart i one e = absurd (none-some one e)
found_apart (f ∷ rest) apart zero one e =
    ap (λ b. option_map (λ (x : Typed). x.of) (cond b (Some f) (find (λ x. bytes_eq x.name one.name) rest)))
    ((bytes_eq-Decides f.name one.name).1 (ap (λ (x : Typed). x.name) (same_Some f one e)))
    ∙ ap (λ (x : Typed). Some x.of) (same_Some f one e)
found_apart (f ∷ rest) apart (suc i) one e =
    by (bytes_eq f.name one.name) refl (found_apart rest apart.1 i one e)
  where
    by : (b : Bool) → bytes_eq f.name one.name ≡ b → type_of_name one.name rest ≡ Some one.of
        → option_map (λ (x : Typed). x.of) (cond b (Some f) (find (λ x. bytes_eq x.name one.name) rest)) ≡ Some one.of
    by true found later =
        absurd (none_is f.name one.name (names_of rest) apart.0 (field_in rest i one e)
        ((bytes_eq-Decides f.name one.name).0 found))
    by false found later = later
