-- Rows are found by their keys.
use Rattle.std.proofs.Common.{◌≡◌, ◌⊎◌, ℕ, suc, ◌+◌, ◌<◌, ◌≤◌, ◌&&◌, Bool, true, false, cond, not, List, []}
use Rattle.std.proofs.Common.{◌∷◌, ◌++◌, length, map, get_or, Option, None, Some, Contains, refl, sym, ap}
use Rattle.std.proofs.Common.{subst, ◌∙◌, inl, inr}
use Rattle.std.specs.Prelude.{nat_lt, slice_get, if◌then◌else◌}
use Rattle.std.specs.List.{list_any, position, position_or_len}
use Rattle.std.specs.Option.{option_map}
use Rattle.std.proofs.lemmas.Bool.{ltb-true, ltb-false, or_from}
use Rattle.std.proofs.lemmas.List.{map-append}
use Rattle.std.proofs.lemmas.List.Elements.{Contains-get_or, Contains-push_cases}
use Rattle.std.proofs.lemmas.List.Folds.{find_at}
use Rattle.std.proofs.lemmas.List.Quantifiers.{all_pairs_push}
use Rattle.std.proofs.lemmas.Option.{same_Some, slice_get_past, slice_get-map, slice_get_read}
use Rattle.au_types.specs.Rows.{same_place}
use Rattle.au_types.specs.declared.types.DeclAt.{DeclAt}
use Rattle.au_instances.specs.declared.constructors.Constructor.{Constructor}
use Rattle.au_instances.specs.declared.constructors.Constructor.TheVariants as constructors
use Rattle.au_instances.specs.declared.keys.Key.{Key}
use Rattle.au_instances.specs.declared.rows.Row.{Row as RowGiven}
use Rattle.au_instances.specs.contracts.keys.KeyPartialEq.TheImpl.{eq-value}
use Rattle.au_instances.specs.Constructors.{constructor_of, is_constructor, same_constructor}
use Rattle.au_instances.specs.Forms.{HasForm}
use Rattle.au_instances.specs.Keys.{key_of, key_said}
use Rattle.au_instances.specs.Rows.{Row, row_said, rows_said}
use Rattle.au_instances.specs.Tables.{AreApart, IsTable, is_row_of, row_of, row_with}
use Rattle.au_instances.proofs.TableLemmas.{row_there}

-- the code's test of two keys
abbrev same_key : Key → Key → Bool
same_key = eq-value.it

key_test : (c d : DeclAt) (a b : Constructor) → same_key (record { class = c; constructor = a })
    (record { class = d; constructor = b }) ≡ (same_place c d && same_constructor a b)
key_test c d constructors.Unit constructors.Unit = refl
key_test c d constructors.Bool constructors.Bool = refl
key_test c d (constructors.Int k) (constructors.Int l) = refl
key_test c d constructors.Text constructors.Text = refl
key_test c d (constructors.Declared k) (constructors.Declared l) = refl
key_test c d a b = refl

-- a key is that of a row exactly where the row is of its class and constructor
test_same : (key other : Key) (row : Row) → key_said other ≡ key_of row → same_key key other
    ≡ is_row_of key.class key.constructor row
test_same key other row same =
    key_test key.class other.class key.constructor other.constructor
    ∙ ap (λ class. same_place key.class class && same_constructor key.constructor other.constructor)
    (ap (λ p. p.0) same)
    ∙ ap (λ o. same_place key.class row.class && is_constructor key.constructor o) (ap (λ p. p.1) same)

first_same : {X : Type 0} (x y : X) (xs ys : List X) → x ∷ xs ≡ y ∷ ys → x ≡ y
first_same x y xs ys e = cc

rest_same : {X : Type 0} (x y : X) (xs ys : List X) → x ∷ xs ≡ y ∷ ys → xs ≡ ys
rest_same x y xs ys e = cc

module _ (key : Key) where
  abbrev test : Row → Bool
  test = is_row_of key.class key.constructor

  positions : (keys : List Key) (rows : List Row) → map key_said keys ≡ map key_of rows →
      position_or_len (same_key key) keys ≡ position_or_len test rows
  positions [] [] same = refl
  positions [] (row ∷ rows) same = absurd cc
  positions (one ∷ keys) [] same = absurd cc
  positions (one ∷ keys) (row ∷ rows) same =
      ap (λ b. cond (not b) (1 + position_or_len (same_key key) keys) 0)
      (test_same key one row (first_same (key_said one) (key_of row) (map key_said keys) (map key_of rows)
      same))
      ∙ ap (λ n. cond (not (test row)) (1 + n) 0)
      (positions keys rows (rest_same (key_said one) (key_of row) (map key_said keys) (map key_of rows)
      same))

  lengths : (keys : List Key) (rows : List Row) → map key_said keys ≡ map key_of rows → length keys ≡ length rows
  lengths [] [] same = refl
  lengths [] (row ∷ rows) same = absurd cc
  lengths (one ∷ keys) [] same = absurd cc
  lengths (one ∷ keys) (row ∷ rows) same =
      ap suc (lengths keys rows (rest_same (key_said one) (key_of row) (map key_said keys) (map key_of rows)
      same))

  -- no key is this one where no row is found
  pub no_key : (keys : List Key) (rows : List Row) → map key_said keys ≡ map key_of rows →
      row_of rows key.class key.constructor ≡ None → list_any (same_key key) keys ≡ false
  no_key [] rows same none = refl
  no_key (one ∷ keys) [] same none = absurd cc
  no_key (one ∷ keys) (row ∷ rows) same none =
      let e = test_same key one row (first_same (key_said one) (key_of row) (map key_said keys)
      (map key_of rows) same) in
      by (test row) refl e (no_key keys rows
      (rest_same (key_said one) (key_of row) (map key_said keys) (map key_of rows) same)) none
    where
      by : (b : Bool) → test row ≡ b → same_key key one ≡ test row →
          (row_of rows key.class key.constructor ≡ None → list_any (same_key key) keys ≡ false) →
          cond b (Some row) (row_of rows key.class key.constructor) ≡ None →
          list_any (same_key key) (one ∷ keys) ≡ false
      by true is e later none = absurd cc
      by false is e later none = or_from (same_key key one) (list_any (same_key key) keys) (e ∙ is) (later none)

-- ---- the place of a key

placed_none : {X : Type 0} (p : X → Bool) (xs : List X) → None ≡ position p xs → length xs ≤ position_or_len p xs
placed_none p xs e = by (nat_lt (position_or_len p xs) (length xs)) refl e
  where
    by : (b : Bool) → nat_lt (position_or_len p xs) (length xs) ≡ b →
        None ≡ cond b (Some (position_or_len p xs)) None → length xs ≤ position_or_len p xs
    by true is e = absurd cc
    by false is e = ltb-false (position_or_len p xs) (length xs) is

placed_some : {X : Type 0} (p : X → Bool) (xs : List X) (i : ℕ) → Some i ≡ position p xs → i ≡ position_or_len p xs
placed_some p xs i e = by (nat_lt (position_or_len p xs) (length xs)) e
  where
    by : (b : Bool) → Some i ≡ cond b (Some (position_or_len p xs)) None → i ≡ position_or_len p xs
    by true e = same_Some i (position_or_len p xs) e
    by false e = absurd cc

placed_within : {X : Type 0} (p : X → Bool) (xs : List X) (i : ℕ) → Some i ≡ position p xs → i < length xs
placed_within p xs i e = by (nat_lt (position_or_len p xs) (length xs)) refl e
  where
    by : (b : Bool) → nat_lt (position_or_len p xs) (length xs) ≡ b →
        Some i ≡ cond b (Some (position_or_len p xs)) None → i < length xs
    by true is e = subst (λ n. n < length xs) (sym (same_Some i (position_or_len p xs) e))
        (ltb-true (position_or_len p xs) (length xs) is)
    by false is e = absurd cc

said_length : (given : List RowGiven) → length (rows_said given) ≡ length given
said_length [] = refl
said_length (row ∷ rest) = ap suc (said_length rest)

-- a key without a place has no row
pub row_missing : (key : Key) (keys : List Key) (rows : List Row) → map key_said keys ≡ map key_of rows →
    None ≡ position (same_key key) keys → None ≡ row_of rows key.class key.constructor
row_missing key keys rows same e =
    let past : length rows ≤ position_or_len (same_key key) keys =
    subst (λ n. n ≤ position_or_len (same_key key) keys) (lengths key keys rows same)
    (placed_none (same_key key) keys e) in
    sym (find_at (test key) rows ∙ ap (slice_get rows) (sym (positions key keys rows same))
    ∙ slice_get_past rows (position_or_len (same_key key) keys) past)

-- the row in the place of a key is the one with its class and constructor
pub row_placed : (key : Key) (keys : List Key) (given : List RowGiven) (i : ℕ) (row : RowGiven) →
    map key_said keys ≡ map key_of (rows_said given) → Some i ≡ position (same_key key) keys
    → row ≡ get_or given i row → Some (row_said row) ≡ row_of (rows_said given) key.class key.constructor
row_placed key keys given i row same e is =
    let inside : i < length given =
    subst (λ n. i < n) (lengths key keys (rows_said given) same ∙ said_length given)
    (placed_within (same_key key) keys i e) in
    let here : slice_get given i ≡ Some row = slice_get_read given (length given) i row refl inside is in
    sym (find_at (test key) (rows_said given)
    ∙ ap (slice_get (rows_said given))
    (sym (positions key keys (rows_said given) same) ∙ sym (placed_some (same_key key) keys i e))
    ∙ slice_get-map row_said given i
    ∙ ap (option_map row_said) here)

-- ---- one more row

pub keys_more : (keys after : List Key) (given more : List RowGiven) (key : Key) (row : RowGiven) →
    map key_said keys ≡ map key_of (rows_said given) → key_said key ≡ key_of (row_said row)
    → after ≡ (if list_any (same_key key) keys then keys else keys ++ key ∷ []) → more ≡ given ++ row ∷ [] →
    row_of (rows_said given) key.class key.constructor ≡ None
    → map key_said after ≡ map key_of (rows_said more)
keys_more keys after given more key row same mine put pushed none =
    ap (map key_said) (put ∙ ap (λ b. if b then keys else keys ++ key ∷ [])
    (no_key key keys (rows_said given) same none))
    ∙ map-append key_said keys (key ∷ [])
    ∙ ap (λ ks. ks ++ key_said key ∷ []) same
    ∙ ap (λ k. map key_of (rows_said given) ++ k ∷ []) mine
    ∙ sym (map-append key_of (rows_said given) (row_said row ∷ []))
    ∙ ap (map key_of) (sym (map-append row_said given (row ∷ [])))
    ∙ ap (λ rows. map key_of (rows_said rows)) (sym pushed)

-- rows stay a table with one more, where none of them is of its class and constructor
pub table_more : (rows : List Row) (row : Row) → IsTable rows → HasForm row.generics row.head →
    row_with rows row.class (constructor_of row.head) ≡ None → IsTable (rows ++ row ∷ [])
table_more rows row table form none = record {
  formed = λ other listed. formed_so other (Contains-push_cases rows row other listed);
  apart = all_pairs_push AreApart rows row table.apart
      (λ k d inside classes heads. absurd (found_there k d inside classes heads));
}
  where
    formed_so : (other : Row) → Contains rows other ⊎ (row ≡ other) → HasForm other.generics other.head
    formed_so other (inl listed) = table.formed other listed
    formed_so other (inr is) = subst (λ r. HasForm r.generics r.head) is form

    found_there : (k : ℕ) (d : Row) → k < length rows → (get_or rows k d).class ≡ row.class →
        constructor_of (get_or rows k d).head ≡ constructor_of row.head → ⊥
    found_there k d inside classes heads =
        let there = row_there rows row.class form.constructor (get_or rows k d) table
        (Contains-get_or rows k d inside) classes (heads ∙ form.heads) in
        let both : ◌≡◌ {A = Option Row} None (Some (get_or rows k d)) = sym none
        ∙ ap (row_with rows row.class) form.heads ∙ there in
        absurd cc

pub rows_more : (given more : List RowGiven) (row : RowGiven) → more ≡ given ++ row ∷ [] →
    rows_said more ≡ rows_said given ++ row_said row ∷ []
rows_more given more row pushed = ap rows_said pushed ∙ map-append row_said given (row ∷ [])
