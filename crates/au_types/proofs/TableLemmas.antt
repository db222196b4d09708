-- Lemmas on tables by name.
use Rattle.std.proofs.Common.{◌≡◌, ℕ, Bool, true, false, cond, not, List, [], ◌∷◌, ◌++◌, None, Some}
use Rattle.std.proofs.Common.{is_some, refl, sym, ap, ◌∙◌, true≢false, append_assoc}
use Rattle.std.specs.Map.{lookup}
use Rattle.std.specs.Str.{bytes_eq}
use Rattle.std.specs.Cmp.Lexicographic.{nat_list_eq_equiv}
use Rattle.std.proofs.lemmas.Slice.Eq.{bytes_eq-Decides}
use Rattle.std.proofs.lemmas.Map.Entries.{lookup-filter-keys}
use Rattle.std.proofs.lemmas.List.{append-nil}
use Rattle.std.proofs.lemmas.List.Elements.{filter-append}
use Rattle.std.proofs.lemmas.Option.{none-some}
use Rattle.indexmap.specs.IndexMap.{insert_entry}
use Rattle.indexmap.proofs.MapLemmas.{absent_from_lookup, insert_entry-absent}
use Rattle.au_base.proofs.TextLemmas.{bytes_self}
use Rattle.au_base.proofs.OptionLemmas.{none_of}
use Rattle.au_types.specs.Tables.{pairs_by, find, has_name, with_pair, with_all, without, firsts}

module _ {K V : Type 0} (name_of : K → List ℕ) where
  -- a name is found among the pairs as among the keys
  pub find-pairs_by : (name : List ℕ) (es : List (K × V)) → find name (pairs_by es name_of)
      ≡ lookup (λ k. bytes_eq name (name_of k)) es
  find-pairs_by name [] = refl
  find-pairs_by name (e ∷ es) = ap (λ r. cond (bytes_eq name (name_of e.0)) (Some e.1) r)
      (find-pairs_by name es)

  pub pairs_by-push : (es : List (K × V)) (k : K) (v : V) → pairs_by (es ++ (k, v) ∷ []) name_of
      ≡ pairs_by es name_of ++ (name_of k, v) ∷ []
  pairs_by-push [] k v = refl
  pairs_by-push (e ∷ es) k v = ap (λ r. (name_of e.0, e.1) ∷ r) (pairs_by-push es k v)

module _ {V : Type 0} (pairs : List (List ℕ × V)) (name : List ℕ) (value : V) where
  -- the first value of a name stays
  pub with_pair-old : has_name name pairs ≡ true → with_pair pairs name value ≡ pairs
  unfolding with_pair
  with_pair-old h = rw h refl

  -- a new name goes last
  pub with_pair-new : has_name name pairs ≡ false → with_pair pairs name value ≡ pairs ++ (name, value) ∷ []
  unfolding with_pair
  with_pair-new h = rw h refl

-- a key that is new goes last among the keys, and so its name among the names
module _ {K V : Type 0} (name_of : K → List ℕ) where
  pub inserted-new : (es : List (K × V)) (k : K) (v : V) (name : List ℕ) → name_of k ≡ name
      → has_name name (pairs_by es name_of) ≡ false
      → pairs_by (insert_entry (λ x y. bytes_eq (name_of x) (name_of y)) es k v) name_of
      ≡ with_pair (pairs_by es name_of) name v
  inserted-new es k v name same fresh =
      let eq : K → K → Bool = λ x y. bytes_eq (name_of x) (name_of y) in
      let missing : lookup (eq k) es ≡ None = ap (λ n. lookup (λ x. bytes_eq n (name_of x)) es) same
      ∙ sym (find-pairs_by name_of name es) ∙ none_of (find name (pairs_by es name_of)) fresh in
      ap (λ r. pairs_by r name_of) (insert_entry-absent eq k v es (absent_from_lookup (eq k) es missing))
      ∙ pairs_by-push name_of es k v
      ∙ ap (λ n. pairs_by es name_of ++ (n, v) ∷ []) same
      ∙ sym (with_pair-new (pairs_by es name_of) name v fresh)

-- a name is equal to no other
other_name : (a b : List ℕ) → ¬ (a ≡ b) → bytes_eq a b ≡ false
other_name a b apart = by (bytes_eq a b) refl
  where
    by : (r : Bool) → bytes_eq a b ≡ r → bytes_eq a b ≡ false
    by true e = absurd (apart ((bytes_eq-Decides a b).0 e))
    by false e = e

-- what is found in front is found in the whole
pub find-front : {V : Type 0} (name : List ℕ) (xs ys : List (List ℕ × V)) (v : V) → find name xs ≡ Some v
    → find name (xs ++ ys) ≡ Some v
find-front name [] ys v h = absurd (none-some v h)
find-front name (x ∷ xs) ys v h = by (bytes_eq name x.0) h (λ k. find-front name xs ys v k)
  where
    by : (b : Bool) → cond b (Some x.1) (find name xs) ≡ Some v
        → (find name xs ≡ Some v → find name (xs ++ ys) ≡ Some v)
        → cond b (Some x.1) (find name (xs ++ ys)) ≡ Some v
    by true k on = k
    by false k on = on k

module _ {V : Type 0} where
  -- what is found behind more pairs
  find-append : (name : List ℕ) (pairs more : List (List ℕ × V)) → has_name name pairs ≡ false
      → find name (pairs ++ more) ≡ find name more
  find-append name [] more h = refl
  find-append name (p ∷ ps) more h = by (bytes_eq name p.0) refl (λ fresh. find-append name ps more fresh)
    where
      by : (b : Bool) → bytes_eq name p.0 ≡ b
          → (has_name name ps ≡ false → find name (ps ++ more) ≡ find name more)
          → find name ((p ∷ ps) ++ more) ≡ find name more
      by true e rest = absurd (true≢false (sym (ap (λ c. is_some (cond c (Some p.1) (find name ps))) e) ∙ h))
      by false e rest =
          ap (λ c. cond c (Some p.1) (find name (ps ++ more))) e
          ∙ rest (sym (ap (λ c. is_some (cond c (Some p.1) (find name ps))) e) ∙ h)

  find-append_other : (name : List ℕ) (pairs : List (List ℕ × V)) (p : List ℕ × V) → bytes_eq name p.0 ≡ false
      → find name (pairs ++ p ∷ []) ≡ find name pairs
  find-append_other name [] p h = ap (λ c. cond c (Some p.1) None) h
  find-append_other name (q ∷ qs) p h =
      ap (λ r. cond (bytes_eq name q.0) (Some q.1) r) (find-append_other name qs p h)

  -- what is put under a new name is found
  pub find-with_pair : (pairs : List (List ℕ × V)) (name : List ℕ) (value : V) → has_name name pairs ≡ false
      → find name (with_pair pairs name value) ≡ Some value
  find-with_pair pairs name value h =
      ap (find name) (with_pair-new pairs name value h) ∙ find-append name pairs ((name, value) ∷ []) h
      ∙ ap (λ c. cond c (Some value) None) (bytes_self name)

  -- the others stay
  pub find-with_pair_other : (pairs : List (List ℕ × V)) (name : List ℕ) (value : V) (other : List ℕ)
      → ¬ (other ≡ name) → find other (with_pair pairs name value) ≡ find other pairs
  find-with_pair_other pairs name value other apart = by (has_name name pairs) refl
    where
      by : (b : Bool) → has_name name pairs ≡ b → find other (with_pair pairs name value) ≡ find other pairs
      by true e = ap (find other) (with_pair-old pairs name value e)
      by false e = ap (find other) (with_pair-new pairs name value e)
          ∙ find-append_other other pairs (name, value) (other_name other name apart)

  -- a name is found as before where another name is taken away
  find-without : (name gone : List ℕ) (pairs : List (List ℕ × V)) → bytes_eq name gone ≡ false
      → find name (without gone pairs) ≡ find name pairs
  find-without name gone pairs apart =
      lookup-filter-keys (bytes_eq name) (λ k. not (bytes_eq gone k)) true
      (λ k h. ap not (nat_list_eq_equiv.symm gone k ∙ sym (nat_list_eq_equiv.congr name k gone h) ∙ apart))
      pairs

  -- the first of each name have the values of the first of each name
  pub find-firsts : (name : List ℕ) (pairs : List (List ℕ × V)) → find name (firsts pairs) ≡ find name pairs
  unfolding firsts
  find-firsts name [] = refl
  find-firsts name (p ∷ ps) = by (bytes_eq name p.0) refl (find-firsts name ps)
    where
      by : (b : Bool) → bytes_eq name p.0 ≡ b → find name (firsts ps) ≡ find name ps
          → cond (bytes_eq name p.0) (Some p.1) (find name (without p.0 (firsts ps)))
          ≡ cond (bytes_eq name p.0) (Some p.1) (find name ps)
      by true e rest = ap (λ c. cond c (Some p.1) (find name (without p.0 (firsts ps)))) e
          ∙ sym (ap (λ c. cond c (Some p.1) (find name ps)) e)
      by false e rest = ap (λ r. cond (bytes_eq name p.0) (Some p.1) r)
          (find-without name p.0 (firsts ps) e ∙ rest)

  -- a pair behind a pair whose name is taken away from the others
  behind : (pairs : List (List ℕ × V)) (x p : List ℕ × V) → x ∷ without x.0 (with_pair pairs p.0 p.1)
      ≡ with_pair (x ∷ without x.0 pairs) p.0 p.1
  behind pairs x p = by (bytes_eq p.0 x.0) (has_name p.0 pairs) refl refl
    where
      by : (b h : Bool) → bytes_eq p.0 x.0 ≡ b → has_name p.0 pairs ≡ h
          → x ∷ without x.0 (with_pair pairs p.0 p.1) ≡ with_pair (x ∷ without x.0 pairs) p.0 p.1
      by true true e k =
          ap (λ r. x ∷ without x.0 r) (with_pair-old pairs p.0 p.1 k)
          ∙ sym (with_pair-old (x ∷ without x.0 pairs) p.0 p.1
          (ap (λ c. is_some (cond c (Some x.1) (find p.0 (without x.0 pairs)))) e))
      by true false e k =
          ap (λ r. x ∷ without x.0 r) (with_pair-new pairs p.0 p.1 k)
          ∙ ap (λ r. x ∷ r) (filter-append (λ q. not (bytes_eq x.0 q.0)) pairs (p ∷ []))
          ∙ ap (λ c. x ∷ (without x.0 pairs ++ cond (not c) (p ∷ []) [])) (nat_list_eq_equiv.symm x.0 p.0 ∙ e)
          ∙ ap (λ r. x ∷ r) (append-nil (without x.0 pairs))
          ∙ sym (with_pair-old (x ∷ without x.0 pairs) p.0 p.1
          (ap (λ c. is_some (cond c (Some x.1) (find p.0 (without x.0 pairs)))) e))
      by false true e k =
          ap (λ r. x ∷ without x.0 r) (with_pair-old pairs p.0 p.1 k)
          ∙ sym (with_pair-old (x ∷ without x.0 pairs) p.0 p.1
          (ap (λ c. is_some (cond c (Some x.1) (find p.0 (without x.0 pairs)))) e
          ∙ ap is_some (find-without p.0 x.0 pairs e) ∙ k))
      by false false e k =
          ap (λ r. x ∷ without x.0 r) (with_pair-new pairs p.0 p.1 k)
          ∙ ap (λ r. x ∷ r) (filter-append (λ q. not (bytes_eq x.0 q.0)) pairs (p ∷ []))
          ∙ ap (λ c. x ∷ (without x.0 pairs ++ cond (not c) (p ∷ []) [])) (nat_list_eq_equiv.symm x.0 p.0 ∙ e)
          ∙ sym (with_pair-new (x ∷ without x.0 pairs) p.0 p.1
          (ap (λ c. is_some (cond c (Some x.1) (find p.0 (without x.0 pairs)))) e
          ∙ ap is_some (find-without p.0 x.0 pairs e) ∙ k))

  -- the first of each name, and one more pair
  firsts-push : (pairs : List (List ℕ × V)) (p : List ℕ × V) → firsts (pairs ++ p ∷ [])
      ≡ with_pair (firsts pairs) p.0 p.1
  unfolding firsts with_pair
  firsts-push [] p = refl
  firsts-push (x ∷ xs) p = ap (λ r. x ∷ without x.0 r) (firsts-push xs p) ∙ behind (firsts xs) x p

  -- the first of each name, and more pairs
  pub firsts-append : (pairs more : List (List ℕ × V)) → firsts (pairs ++ more) ≡ with_all (firsts pairs) more
  unfolding with_all
  firsts-append pairs [] = ap firsts (append-nil pairs)
  firsts-append pairs (p ∷ ps) =
      ap firsts (sym (append_assoc pairs (p ∷ []) ps)) ∙ firsts-append (pairs ++ p ∷ []) ps
      ∙ ap (λ r. with_all r ps) (firsts-push pairs p)

  -- pairs that are put in turn are the first of each name
  pub with_all-firsts : (pairs : List (List ℕ × V)) → with_all [] pairs ≡ firsts pairs
  unfolding firsts
  with_all-firsts pairs = sym (firsts-append [] pairs)

  -- nothing more is put
  pub with_all-none : (pairs : List (List ℕ × V)) → with_all pairs [] ≡ pairs
  unfolding with_all
  with_all-none pairs = refl

  -- one more is put
  pub with_all-one : (pairs : List (List ℕ × V)) (name : List ℕ) (value : V)
      → with_all pairs ((name, value) ∷ []) ≡ with_pair pairs name value
  unfolding with_all
  with_all-one pairs name value = refl

  -- one more is put at the end
  pub with_all-push : (pairs more : List (List ℕ × V)) (p : List ℕ × V)
      → with_all pairs (more ++ p ∷ []) ≡ with_pair (with_all pairs more) p.0 p.1
  unfolding with_all
  with_all-push pairs [] p = refl
  with_all-push pairs (q ∷ qs) p = with_all-push (with_pair pairs q.0 q.1) qs p

pub ruleset put_steps = (with_all-none, with_all-one)
