-- Putting pairs in turn, and a step of a loop that does.
use Rattle.std.proofs.Common.{◌≡◌, ℕ, ◌+◌, ◌<◌, Bool, true, false, cond, not, List, [], ◌∷◌, ◌++◌, map}
use Rattle.std.proofs.Common.{length, drop, get_or, ◌≤◌, Some, is_some, refl, sym, ap, ◌∙◌, true≢false}
use Rattle.std.specs.Prelude.{slice_get}
use Rattle.std.specs.Str.{bytes_eq}
use Rattle.std.proofs.lemmas.List.{drop_all}
use Rattle.std.proofs.lemmas.Option.{slice_get_read}
use Rattle.std.proofs.lemmas.Slice.Eq.{bytes_eq-Decides}
use Rattle.au_base.proofs.ListLemmas.{drop_at}
use Rattle.au_types.specs.Tables.{find, has_name, with_pair, with_all, without, firsts}
use Rattle.au_types.proofs.TableLemmas.{with_pair-old, with_pair-new, find-with_pair, with_all-none}
use Rattle.au_types.proofs.TableLemmas.{with_all-one}
use Rattle.au_names.specs.declared.targets.Target.{Target}
use Rattle.au_names.specs.Owned.{target}

module _ {V : Type 0} where
  -- pairs are put in turn
  pub with_all-append : (t xs ys : List (List ℕ × V)) → with_all t (xs ++ ys) ≡ with_all (with_all t xs) ys
  unfolding with_all
  with_all-append t [] ys = refl
  with_all-append t (x ∷ xs) ys = with_all-append (with_pair t x.0 x.1) xs ys

  pub with_all-cons : (t : List (List ℕ × V)) (name : List ℕ) (value : V) (xs : List (List ℕ × V))
      → with_all t ((name, value) ∷ xs) ≡ with_all (with_pair t name value) xs
  unfolding with_all
  with_all-cons t name value xs = refl

  -- a name that is found is found with more behind
  has-append : (name : List ℕ) (t xs : List (List ℕ × V)) → has_name name t ≡ true
      → has_name name (t ++ xs) ≡ true
  has-append name [] xs h = absurd (true≢false (sym h))
  has-append name (p ∷ ps) xs h = by (bytes_eq name p.0) refl (λ k. has-append name ps xs k)
    where
      by : (b : Bool) → bytes_eq name p.0 ≡ b → (has_name name ps ≡ true → has_name name (ps ++ xs) ≡ true)
          → has_name name ((p ∷ ps) ++ xs) ≡ true
      by true e rest = ap (λ c. is_some (cond c (Some p.1) (find name (ps ++ xs)))) e
      by false e rest =
          ap (λ c. is_some (cond c (Some p.1) (find name (ps ++ xs)))) e
          ∙ rest (sym (ap (λ c. is_some (cond c (Some p.1) (find name ps))) e) ∙ h)

  -- a name stays
  pub has-stays : (name : List ℕ) (t : List (List ℕ × V)) (other : List ℕ) (value : V)
      → has_name name t ≡ true → has_name name (with_pair t other value) ≡ true
  has-stays name t other value h = by (has_name other t) refl
    where
      by : (b : Bool) → has_name other t ≡ b → has_name name (with_pair t other value) ≡ true
      by true e = ap (has_name name) (with_pair-old t other value e) ∙ h
      by false e =
          ap (has_name name) (with_pair-new t other value e) ∙ has-append name t ((other, value) ∷ []) h

  -- a name is there once it is put
  pub has-put : (t : List (List ℕ × V)) (name : List ℕ) (value : V)
      → has_name name (with_pair t name value) ≡ true
  has-put t name value = by (has_name name t) refl
    where
      by : (b : Bool) → has_name name t ≡ b → has_name name (with_pair t name value) ≡ true
      by true e = ap (has_name name) (with_pair-old t name value e) ∙ e
      by false e = ap is_some (find-with_pair t name value e)

  -- a name that is there may be left out of what is put
  without-put : (name : List ℕ) (t xs : List (List ℕ × V)) → has_name name t ≡ true
      → with_all t (without name xs) ≡ with_all t xs
  unfolding with_all
  without-put name t [] h = refl
  without-put name t (x ∷ xs) h =
      by (bytes_eq name x.0) refl (without-put name t xs h)
      (without-put name (with_pair t x.0 x.1) xs (has-stays name t x.0 x.1 h))
    where
      by : (b : Bool) → bytes_eq name x.0 ≡ b → with_all t (without name xs) ≡ with_all t xs
          → with_all (with_pair t x.0 x.1) (without name xs) ≡ with_all (with_pair t x.0 x.1) xs
          → with_all t (without name (x ∷ xs)) ≡ with_all t (x ∷ xs)
      by true e same others =
          ap (λ c. with_all t (cond (not c) (x ∷ without name xs) (without name xs))) e
          ∙ same
          ∙ ap (λ r. with_all r xs)
          (sym
          (with_pair-old t x.0 x.1 (ap (λ n. has_name n t) (sym ((bytes_eq-Decides name x.0).0 e)) ∙ h)))
      by false e same others =
          ap (λ c. with_all t (cond (not c) (x ∷ without name xs) (without name xs))) e ∙ others

  -- the first of each name are put as all are
  pub firsts-put : (t xs : List (List ℕ × V)) → with_all t (firsts xs) ≡ with_all t xs
  unfolding with_all firsts
  firsts-put t [] = refl
  firsts-put t (x ∷ xs) =
      without-put x.0 (with_pair t x.0 x.1) (firsts xs) (has-put t x.0 x.1)
      ∙ firsts-put (with_pair t x.0 x.1) xs

  -- A step of a loop that puts what its items bring: what is left to put comes to the same.
  pub put_step : {A : Type 0} (all : List A → List (List ℕ × V)) (one : A → List (List ℕ × V))
      → ((x : A) (xs : List A) → all (x ∷ xs) ≡ one x ++ all xs)
      → (before after goal : List (List ℕ × V)) (xs : List A) (i : ℕ) (x : A) → slice_get xs i ≡ Some x
      → with_all before (all (drop i xs)) ≡ goal → after ≡ with_all before (one x)
      → with_all after (all (drop (i + 1) xs)) ≡ goal
  put_step all one more before after goal xs i x here old new =
      ap (λ t. with_all t (all (drop (i + 1) xs))) new
      ∙ sym (with_all-append before (one x) (all (drop (i + 1) xs)))
      ∙ ap (with_all before) (sym (more x (drop (i + 1) xs)))
      ∙ ap (λ r. with_all before (all r)) (sym (drop_at xs i x here))
      ∙ old

  -- all is put once nothing is left
  pub put_end : {A : Type 0} (all : List A → List (List ℕ × V)) → all [] ≡ []
      → (table goal : List (List ℕ × V)) (xs : List A) (i : ℕ) → length xs ≤ i
      → with_all table (all (drop i xs)) ≡ goal → table ≡ goal
  put_end all none table goal xs i past h =
      sym
      (ap (λ r. with_all table (all r)) (drop_all i xs past) ∙ ap (with_all table) none
      ∙ with_all-none table)
      ∙ h

-- a name is put with what it means, by equal names
pub target_put : (before after : List (List ℕ × Target)) (name same : List ℕ) (place number : ℕ) → name ≡ same
    → after ≡ with_pair before name (target place name number)
    → after ≡ with_all before ((same, target place same number) ∷ [])
target_put before after name same place number e h =
    h ∙ ap (λ n. with_pair before n (target place n number)) e
    ∙ sym (with_all-one before same (target place same number))

-- ---- values that are changed

module _ {V W : Type 0} (f : List ℕ × V → W) where
  abbrev pub changed : List (List ℕ × V) → List (List ℕ × W)
  changed pairs = map (λ p. (p.0, f p)) pairs

  -- the first with a name, with its value changed
  find-changed : (name : List ℕ) (xs : List (List ℕ × V)) → has_name name (changed xs) ≡ has_name name xs
  find-changed name [] = refl
  find-changed name (x ∷ xs) = by (bytes_eq name x.0) refl (find-changed name xs)
    where
      by : (b : Bool) → bytes_eq name x.0 ≡ b → has_name name (changed xs) ≡ has_name name xs
          → has_name name (changed (x ∷ xs)) ≡ has_name name (x ∷ xs)
      by true e rest =
          ap (λ c. is_some (cond c (Some (f x)) (find name (changed xs)))) e
          ∙ sym (ap (λ c. is_some (cond c (Some x.1) (find name xs))) e)
      by false e rest =
          ap (λ c. is_some (cond c (Some (f x)) (find name (changed xs)))) e ∙ rest
          ∙ sym (ap (λ c. is_some (cond c (Some x.1) (find name xs))) e)

  without-changed : (name : List ℕ) (xs : List (List ℕ × V))
      → without name (changed xs) ≡ changed (without name xs)
  without-changed name [] = refl
  without-changed name (x ∷ xs) = by (bytes_eq name x.0) refl (without-changed name xs)
    where
      by : (b : Bool) → bytes_eq name x.0 ≡ b → without name (changed xs) ≡ changed (without name xs)
          → without name (changed (x ∷ xs)) ≡ changed (without name (x ∷ xs))
      by true e rest =
          ap (λ c. cond (not c) ((x.0, f x) ∷ without name (changed xs)) (without name (changed xs))) e
          ∙ rest
          ∙ sym (ap (λ c. changed (cond (not c) (x ∷ without name xs) (without name xs))) e)
      by false e rest =
          ap (λ c. cond (not c) ((x.0, f x) ∷ without name (changed xs)) (without name (changed xs))) e
          ∙ ap (λ r. (x.0, f x) ∷ r) rest
          ∙ sym (ap (λ c. changed (cond (not c) (x ∷ without name xs) (without name xs))) e)

  -- the first of each name, with their values changed
  pub firsts-changed : (xs : List (List ℕ × V)) → firsts (changed xs) ≡ changed (firsts xs)
  unfolding firsts
  firsts-changed [] = refl
  firsts-changed (x ∷ xs) =
      ap (λ r. (x.0, f x) ∷ without x.0 r) (firsts-changed xs)
      ∙ ap (λ r. (x.0, f x) ∷ r) (without-changed x.0 (firsts xs))

-- what is read at a place stands there
pub read_at : {A : Type 0} (xs : List A) (i : ℕ) (x : A) → i < length xs → x ≡ get_or xs i x
    → slice_get xs i ≡ Some x
read_at xs i x within is = slice_get_read xs (length xs) i x refl within is
