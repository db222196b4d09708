-- Parts of values where a part of them is written.
use Rattle.std.proofs.Common.{◌≡◌, ℕ, zero, suc, ◌<◌, nat_le, ◌==◌, Bool, true, false, List, [], ◌∷◌, ◌++◌}
use Rattle.std.proofs.Common.{if◌then◌else◌, refl, sym, ap, subst, ◌∙◌, arith}
use Rattle.std.specs.Prelude.{Option, Some, None}
use Rattle.std.proofs.lemmas.Bool.{eq-eqb, eqb-true, eqb-false, le-leb, leb-false}
use Rattle.au_effects.specs.Parts.{along, nth_field, field, part, with_nth, with_field, with_part}
use Rattle.au_effects.specs.Values.{Value, Fields, made, no_fields, field_then}
use Rattle.au_effects.proofs.PartLemmas.{field_changed}
use Rattle.au_places.specs.Memories.{later}
use Rattle.au_places.specs.Places.{covers, one_if}

-- ---- parts that cover none of another

from_first : (i j : ℕ) (p q : List ℕ) → covers 0 (i ∷ p) (j ∷ q) ≡ 0 → (i == j) ≡ true → covers 0 p q ≡ 0
from_first i j p q h same = let e : (if i == j then covers 0 p q else 0) ≡ covers 0 p q = rw same in sym e ∙ h

any_covers : (p : List ℕ) → covers 0 [] p ≡ 0 → ⊥
any_covers [] h = absurd cc
any_covers (j ∷ p) h = let most : one_if true ≡ 0 = ap one_if (sym (le-leb 0 j (omega arith))) ∙ h in absurd cc

before_all : (n j : ℕ) → one_if (nat_le n j) ≡ 0 → j < n
before_all n j h = by (nat_le n j) refl h
  where
    by : (t : Bool) → nat_le n j ≡ t → one_if t ≡ 0 → j < n
    by true e h = absurd cc
    by false e h = leb-false n j e

module _ {T : Type 0} where
  -- ---- one part behind another

  along_twice : {A B : Type 0} (o : Option (Value T)) (f : Value T → Option A) (g : A → Option B)
      → along (along o f) g ≡ along o (λ v. along (f v) g)
  along_twice None f g = refl
  along_twice (Some v) f g = refl

  along_same : {B : Type 0} (o : Option (Value T)) (f g : Value T → Option B) → ((v : Value T) → f v ≡ g v)
      → along o f ≡ along o g
  along_same None f g h = refl
  along_same (Some v) f g h = h v

  pub part_append : (p q : List ℕ) (v : Value T) → part (p ++ q) v ≡ along (part p v) (part q)
  part_append [] q v = refl
  part_append (i ∷ p) q v =
      along_same (field i v) (part (p ++ q)) (λ w. along (part p w) (part q)) (λ w. part_append p q w)
      ∙ sym (along_twice (field i v) (part p) (part q))

  -- ---- fields of which another is changed

  nth_other : (i j : ℕ) (change : Value T → Value T) (fields : Fields T) → (i ≡ j → ⊥)
      → nth_field i (with_nth j change fields) ≡ nth_field i fields
  nth_other i j change no_fields differ = refl
  nth_other zero zero change (field_then v rest) differ = absurd (differ refl)
  nth_other zero (suc j) change (field_then v rest) differ = refl
  nth_other (suc i) zero change (field_then v rest) differ = refl
  nth_other (suc i) (suc j) change (field_then v rest) differ =
      nth_other i j change rest (λ e. differ (ap suc e))

  field_other : (i j : ℕ) (change : Value T → Value T) (v : Value T) → (i ≡ j → ⊥)
      → field i (with_field j change v) ≡ field i v
  field_other i j change (made tag birth fields) differ = nth_other i j change fields differ
  field_other i j change other differ = refl

  -- fields of which one is changed, where it isn't there
  nth_missing : (i : ℕ) (change : Value T → Value T) (fields : Fields T) → nth_field i fields ≡ None
      → nth_field i (with_nth i change fields) ≡ None
  nth_missing i change no_fields h = refl
  nth_missing zero change (field_then v rest) h = absurd cc
  nth_missing (suc i) change (field_then v rest) h = nth_missing i change rest h

  field_missing : (i : ℕ) (change : Value T → Value T) (v : Value T) → field i v ≡ None
      → field i (with_field i change v) ≡ None
  field_missing i change (made tag birth fields) h = nth_missing i change fields h
  field_missing i change other h = h

  -- ---- parts that are apart

  -- a field that is changed, and then a part of it
  field_then_part : (i : ℕ) (p q : List ℕ) (new v : Value T) (found : Option (Value T)) → field i v ≡ found
      → ((w : Value T) → part q (with_part p new w) ≡ part q w)
      → along (field i (with_field i (with_part p new) v)) (part q) ≡ along found (part q)
  field_then_part i p q new v None is more =
      ap (λ o. along o (part q)) (field_missing i (with_part p new) v is)
  field_then_part i p q new v (Some w) is more =
      ap (λ o. along o (part q)) (field_changed i (with_part p new) v w is) ∙ more w

  first_apart : (i j : ℕ) (p q : List ℕ) (new v : Value T) → covers 0 (i ∷ p) (j ∷ q) ≡ 0
      → covers 0 (j ∷ q) (i ∷ p) ≡ 0
      → (covers 0 p q ≡ 0 → covers 0 q p ≡ 0 → (w : Value T) → part q (with_part p new w) ≡ part q w)
      → (t : Bool) → (i == j) ≡ t → part (j ∷ q) (with_part (i ∷ p) new v) ≡ part (j ∷ q) v
  first_apart i j p q new v h k more true e =
      let same = eqb-true i j e in
      let back : (j == i) ≡ true = eq-eqb j i (sym same) in
      subst (λ n. along (field n (with_field i (with_part p new) v)) (part q) ≡ along (field n v) (part q)) same
      (field_then_part i p q new v (field i v) refl (more (from_first i j p q h e) (from_first j i q p k back)))
  first_apart i j p q new v h k more false e =
      ap (λ o. along o (part q)) (field_other j i (with_part p new) v (λ same. eqb-false i j e (sym same)))

  pub part_apart : (p q : List ℕ) (new v : Value T) → covers 0 p q ≡ 0 → covers 0 q p ≡ 0
      → part q (with_part p new v) ≡ part q v
  part_apart [] q new v h k = absurd (any_covers q h)
  part_apart (i ∷ p) [] new v h k = absurd (any_covers (i ∷ p) k)
  part_apart (i ∷ p) (j ∷ q) new v h k =
      first_apart i j p q new v h k (λ h2 k2 w. part_apart p q new w h2 k2) (i == j) refl

  -- ---- a part of what stands at the end of a path is written

  -- fields behind one that is changed
  later_same : (n j : ℕ) (change : Value T → Value T) (parts : Fields T) → j < n
      → later n (with_nth j change parts) ≡ later n parts
  later_same zero j change parts h = absurd (omega arith)
  later_same (suc n) j change no_fields h = refl
  later_same (suc n) zero change (field_then v rest) h = refl
  later_same (suc n) (suc j) change (field_then v rest) h = later_same n j change rest (omega arith)

  -- A value stands at the end of a path that is of the same case, and whose fields from a number on are the same.
  pub record StaysMade (n : ℕ) (q : List ℕ) (v : Value T) (tag : ℕ) (born : Option ℕ) (parts : Fields T) : Type 0 where
    pub others : Fields T
    pub there : part q v ≡ Some (made tag born others)
    pub same : later n others ≡ later n parts

  -- a value of a case of which something below one of its first parts is written
  below_made : (n j : ℕ) (p : List ℕ) (new v : Value T) (tag : ℕ) (born : Option ℕ) (parts : Fields T) → j < n
      → part [] v ≡ Some (made tag born parts) → StaysMade n [] (with_part (j ∷ p) new v) tag born parts
  below_made n j p new v tag born parts less h =
      let is : v ≡ made tag born parts = cc in
      record {
        others = with_nth j (with_part p new) parts;
        there = ap (λ w. Some (with_part (j ∷ p) new w)) is;
        same = later_same n j (with_part p new) parts less;
      }

  -- the same in a field of which a part is written
  in_field : (n i : ℕ) (p q : List ℕ) (new v : Value T) (tag : ℕ) (born : Option ℕ) (parts : Fields T)
      (found : Option (Value T)) → field i v ≡ found → along found (part q) ≡ Some (made tag born parts)
      → ((w : Value T) → part q w ≡ Some (made tag born parts) → StaysMade n q (with_part p new w) tag born parts)
      → StaysMade n (i ∷ q) (with_field i (with_part p new) v) tag born parts
  in_field n i p q new v tag born parts None is h more = absurd cc
  in_field n i p q new v tag born parts (Some w) is h more =
      let there = more w h in
      record {
        others = there.others;
        there = ap (λ o. along o (part q)) (field_changed i (with_part p new) v w is) ∙ there.there;
        same = there.same;
      }

  first_above : (n i j : ℕ) (p q : List ℕ) (new v : Value T) (tag : ℕ) (born : Option ℕ) (parts : Fields T)
      → covers n (i ∷ q) (j ∷ p) ≡ 0 → covers 0 (j ∷ p) (i ∷ q) ≡ 0
      → part (i ∷ q) v ≡ Some (made tag born parts)
      → (covers n q p ≡ 0 → covers 0 p q ≡ 0 → (w : Value T) → part q w ≡ Some (made tag born parts)
      → StaysMade n q (with_part p new w) tag born parts)
      → (t : Bool) → (i == j) ≡ t → StaysMade n (i ∷ q) (with_part (j ∷ p) new v) tag born parts
  first_above n i j p q new v tag born parts h k there more true e =
      let same = eqb-true i j e in
      let back : (j == i) ≡ true = eq-eqb j i (sym same) in
      let inner : covers n q p ≡ 0 =
      let c : (if i == j then covers n q p else 0) ≡ covers n q p = rw e in sym c ∙ h in
      subst (λ c. StaysMade n (i ∷ q) (with_field c (with_part p new) v) tag born parts) same
      (in_field n i p q new v tag born parts (field i v) refl there (more inner (from_first j i p q k back)))
  first_above n i j p q new v tag born parts h k there more false e = record {
    others = parts;
    there = ap (λ o. along o (part q)) (field_other i j (with_part p new) v (λ same. eqb-false i j e same)) ∙ there;
    same = refl;
  }

  -- a value of a case stays one where something is written in one of its first parts, or apart from it
  pub part_above : (n : ℕ) (p q : List ℕ) (new v : Value T) (tag : ℕ) (born : Option ℕ) (parts : Fields T)
      → covers n q p ≡ 0 → covers 0 p q ≡ 0 → part q v ≡ Some (made tag born parts)
      → StaysMade n q (with_part p new v) tag born parts
  part_above n [] [] new v tag born parts h k there = absurd (any_covers [] k)
  part_above n [] (i ∷ q) new v tag born parts h k there = absurd (any_covers (i ∷ q) k)
  part_above n (j ∷ p) [] new v tag born parts h k there =
      below_made n j p new v tag born parts (before_all n j h) there
  part_above n (j ∷ p) (i ∷ q) new v tag born parts h k there =
      first_above n i j p q new v tag born parts h k there
      (λ h2 k2 w there2. part_above n p q new w tag born parts h2 k2 there2) (i == j) refl
