-- Rows of a table are told apart by class and constructor.
use Rattle.std.proofs.Common.{◌≡◌, ◌⊎◌, ◌<◌, Bool, true, false, cond, List, [], ◌∷◌, get_or, Option, None}
use Rattle.std.proofs.Common.{Some, Contains, refl, sym, ap, subst, ◌∙◌, inl, inr, arith, true≢false}
use Rattle.std.specs.List.{find}
use Rattle.std.proofs.lemmas.Bool.{and_parts, and_from, cases_order}
use Rattle.std.proofs.lemmas.Option.{same_Some}
use Rattle.std.proofs.lemmas.List.{get_or_default}
use Rattle.au_base.proofs.ListLemmas.{Contains-first, Contains-rest, Contains-cases}
use Rattle.au_types.specs.declared.types.DeclAt.{DeclAt}
use Rattle.au_types.specs.Rows.{same_place}
use Rattle.au_types.proofs.SameLemmas.{place_is, place_self}
use Rattle.au_instances.specs.declared.constructors.Constructor.{Constructor}
use Rattle.au_instances.specs.Constructors.{constructor_of, is_constructor}
use Rattle.au_instances.specs.Rows.{Row}
use Rattle.au_instances.specs.Tables.{IsTable, is_row_of, row_of}
use Rattle.au_instances.proofs.ConstructorLemmas.{is_that, that_is}

-- ---- what is found in lists

-- what is found is in the list and passes the test
pub find_gave : {X : Type 0} (p : X → Bool) (xs : List X) (y : X) → find p xs ≡ Some y → Contains xs y × (p y ≡ true)
find_gave p [] y e = absurd cc
find_gave p (x ∷ xs) y e = by (p x) refl (find_gave p xs y) e
  where
    by : (b : Bool) → p x ≡ b → (find p xs ≡ Some y → Contains xs y × (p y ≡ true)) →
        cond b (Some x) (find p xs) ≡ Some y → Contains (x ∷ xs) y × (p y ≡ true)
    by true passes others e =
        let is = same_Some x y e in
        (subst (Contains (x ∷ xs)) is (Contains-first x xs), subst (λ z. p z ≡ true) is passes)
    by false fails others e = let rest = others e in (Contains-rest x xs y rest.0, rest.1)

-- where nothing is found, nothing passes
pub find_none : {X : Type 0} (p : X → Bool) (xs : List X) (y : X) → find p xs ≡ None → Contains xs y → p y ≡ false
find_none p [] y e (k, within, is) = absurd (omega arith)
find_none p (x ∷ xs) y e c = by (p x) refl (find_none p xs y) e (Contains-cases x xs y c)
  where
    by : (b : Bool) → p x ≡ b → (find p xs ≡ None → Contains xs y → p y ≡ false) → cond b (Some x) (find p xs)
        ≡ None → (x ≡ y) ⊎ Contains xs y → p y ≡ false
    by true passes others e h = absurd cc
    by false fails others e (inl is) = subst (λ z. p z ≡ false) is fails
    by false fails others e (inr h) = others e h

-- ---- rows

-- a row that is found is of the class and has the constructor
pub row_gave : (rows : List Row) (class : DeclAt) (one : Constructor) (row : Row) → row_of rows class one
    ≡ Some row → Contains rows row × (row.class ≡ class) × (constructor_of row.head ≡ Some one)
row_gave rows class one row e =
    let found = find_gave (is_row_of class one) rows row e in
    let both = and_parts (same_place class row.class) (is_constructor one (constructor_of row.head)) found.1 in
    (found.0, sym (place_is class row.class both.0), is_that one (constructor_of row.head) both.1)

-- of one class and one constructor there is one row
pub one_row : (rows : List Row) (a b : Row) → IsTable rows → Contains rows a → Contains rows b →
    a.class ≡ b.class → constructor_of a.head ≡ constructor_of b.head → a ≡ b
one_row rows a b table (i, i_within, i_is) (j, j_within, j_is) classes heads = by (cases_order i j)
  where
    alike : get_or rows j a ≡ b
    alike = get_or_default rows j a b j_within ∙ j_is

    by : (i ≡ j) ⊎ ((i < j) ⊎ (j < i)) → a ≡ b
    by (inl same) = sym i_is ∙ ap (λ k. get_or rows k a) same ∙ alike
    by (inr (inl before)) = absurd
        (table.apart i j a before j_within (ap (λ r. r.class) i_is ∙ classes ∙ sym (ap (λ r. r.class) alike))
        (ap (λ r. constructor_of r.head) i_is ∙ heads ∙ sym (ap (λ r. constructor_of r.head) alike)))
    by (inr (inr after)) = absurd (table.apart j i a after i_within
        (ap (λ r. r.class) alike ∙ sym classes ∙ sym (ap (λ r. r.class) i_is))
        (ap (λ r. constructor_of r.head) alike ∙ sym heads ∙ sym (ap (λ r. constructor_of r.head) i_is)))

-- a row of a table is the one that is found
pub row_there : (rows : List Row) (class : DeclAt) (one : Constructor) (row : Row) → IsTable rows →
    Contains rows row → row.class ≡ class → constructor_of row.head ≡ Some one → row_of rows class one
    ≡ Some row
row_there rows class one row table listed of_class heads = by (row_of rows class one) refl
  where
    passes : is_row_of class one row ≡ true
    passes = and_from (same_place class row.class) (is_constructor one (constructor_of row.head))
        (subst (λ c. same_place class c ≡ true) (sym of_class) (place_self class))
        (that_is one (constructor_of row.head) heads)

    by : (o : Option Row) → row_of rows class one ≡ o → o ≡ Some row
    by None e = absurd (true≢false (sym passes ∙ find_none (is_row_of class one) rows row e listed))
    by (Some other) e =
        let found = row_gave rows class one other e in
        ap Some (one_row rows other row table found.0 listed (found.1 ∙ sym of_class) (found.2 ∙ sym heads))
