-- Rows are found from the place of the first type of a number on.
use Rattle.std.proofs.Common.{◌≡◌, ℕ, zero, suc, ◌+◌, ◌<◌, ◌≤◌, Bool, true, false, ◌||◌, cond, nat_eq}
use Rattle.std.proofs.Common.{length, drop, take, get_or, map, List, [], ◌∷◌, ◌++◌, Option, None, Some}
use Rattle.std.proofs.Common.{refl, sym, ap, ◌∙◌, eq-eqb, arith}
use Rattle.std.proofs.lemmas.Bool.{or_parts}
use Rattle.std.proofs.lemmas.List.{drop-map, drop_more, length-map, take-map, take_all, take_more}
use Rattle.std.specs.List.{list_any}
use Rattle.std.specs.Option.{option_or, unwrap_or}
use Rattle.au_type_texts.specs.Same.{same}
use Rattle.au_type_texts.specs.Types.{ClosedType}
use Rattle.au_type_texts.specs.Views.{closed_meaning}
use Rattle.au_type_texts.proofs.SameLemmas.{same_is}
use Rattle.au_closed_meanings.specs.Programs.{Row, row_in}
use Rattle.au_lowering.specs.Mixing.{type_mixed}
use Rattle.au_lowering.specs.Placed.{ArePlaced, placed_with}
use Rattle.au_lowering.specs.Views.{row_held, rows_held}
use Rattle.au_lowering.specs.declared.seen.SeenRow.{SeenRow}

-- types of two numbers aren't the same
two_numbers : (t u : ClosedType) → nat_eq (type_mixed t) (type_mixed u) ≡ false → same t u ≡ false
two_numbers t u differ = by (same t u) refl
  where
    by : (b : Bool) → same t u ≡ b → b ≡ false
    by true e =
        let one : nat_eq (type_mixed t) (type_mixed u)
        ≡ true = eq-eqb (type_mixed t) (type_mixed u) (ap type_mixed (same_is t u e)) in
        absurd cc
    by false e = refl

-- whether a row of a type stands among some
abbrev has_row : ClosedType → List Row → Bool
has_row t rows = list_any (λ (row : Row). same row.of t) rows

-- a row is looked for behind those that aren't of its type
skip : (k : ℕ) (rows : List Row) (t : ClosedType) → has_row t (take k rows) ≡ false
    → row_in (drop k rows) t ≡ row_in rows t
skip zero rows t none = refl
skip (suc k) [] t none = refl
skip (suc k) (row ∷ rest) t none =
    let both = or_parts (same row.of t) (has_row t (take k rest)) none in
    skip k rest t both.1 ∙ sym (λ j. cond (both.0 j) (Some row) (row_in rest t))

-- a row more that isn't of a type
none_more : (items : List SeenRow) (i : ℕ) (item : SeenRow) (t : ClosedType) → i < length items
    → item ≡ get_or items i item → same (closed_meaning item.of.now) t ≡ false
    → has_row t (take i (rows_held items)) ≡ false → has_row t (take (i + 1) (rows_held items)) ≡ false
none_more items i item t below here differs none =
    ap (has_row t) (take-map row_held (i + 1) items ∙ ap (map row_held) (take_more items i item below))
    ∙ ap (λ x. has_row t (map row_held (take i items ++ x ∷ []))) (sym here)
    ∙ by (take i items) (ap (has_row t) (sym (take-map row_held i items)) ∙ none)
  where
    by : (front : List SeenRow) → has_row t (rows_held front) ≡ false
        → has_row t (rows_held (front ++ item ∷ [])) ≡ false
    by [] e = λ j. differs j || false
    by (x ∷ rest) e =
        let both = or_parts (same (closed_meaning x.of.now) t) (has_row t (rows_held rest)) e in
        λ j. both.0 j || by rest both.1 j

-- a row more has its place
pub placed_more : (items : List SeenRow) (i : ℕ) (item : SeenRow) (old more : ℕ → Option ℕ)
    → i < length items → item ≡ get_or items i item
    → ((other : ℕ) → more other ≡ placed_with (type_mixed (closed_meaning item.of.now)) i old other)
    → ArePlaced (rows_held items) old i → ArePlaced (rows_held items) more (i + 1)
placed_more items i item old more below here is before t =
    ap (λ o. has_row t (take (unwrap_or o (i + 1)) (rows_held items))) (is (type_mixed t))
    ∙ by (old (type_mixed t)) (nat_eq (type_mixed (closed_meaning item.of.now)) (type_mixed t)) refl refl
  where
    so_far : (o : Option ℕ) → old (type_mixed t) ≡ o
        → has_row t (take (unwrap_or o i) (rows_held items)) ≡ false
    so_far o e = ap (λ o. has_row t (take (unwrap_or o i) (rows_held items))) (sym e) ∙ before t

    by : (o : Option ℕ) (b : Bool) → old (type_mixed t) ≡ o
        → nat_eq (type_mixed (closed_meaning item.of.now)) (type_mixed t) ≡ b
        → has_row t (take (unwrap_or (option_or o (cond b (Some i) None)) (i + 1)) (rows_held items)) ≡ false
    by (Some at) b e f = so_far (Some at) e
    by None true e f = so_far None e
    by None false e f =
        none_more items i item t below here (two_numbers (closed_meaning item.of.now) t f) (so_far None e)

-- a type whose number has no place has no row
pub no_place : (items : List SeenRow) (places : ℕ → Option ℕ) (t : ClosedType)
    → ArePlaced (rows_held items) places (length items) → places (type_mixed t) ≡ None
    → None ≡ row_in (rows_held items) t
no_place items places t placed none =
    by (rows_held items) (ap (has_row t) (sym (take_all (length items) (rows_held items) all))
    ∙ ap (λ o. has_row t (take (unwrap_or o (length items)) (rows_held items))) (sym none) ∙ placed t)
  where
    all : length (rows_held items) ≤ length items
    all = omega (arith, length-map items row_held)

    by : (rest : List Row) → has_row t rest ≡ false → None ≡ row_in rest t
    by [] e = refl
    by (row ∷ rest) e =
        let both = or_parts (same row.of t) (has_row t rest) e in
        by rest both.1 ∙ sym (λ j. cond (both.0 j) (Some row) (row_in rest t))

-- one whose number has a place is found from there on
pub at_place : (rows : List Row) (places : ℕ → Option ℕ) (left place : ℕ) (t : ClosedType)
    → ArePlaced rows places left → places (type_mixed t) ≡ Some place
    → row_in (drop place rows) t ≡ row_in rows t
at_place rows places left place t placed is =
    skip place rows t (ap (λ o. has_row t (take (unwrap_or o left) rows)) (sym is) ∙ placed t)

-- ---- the walk from a place on

row_next : (items : List SeenRow) (i : ℕ) (item : SeenRow) → i < length items → item ≡ get_or items i item
    → drop i (rows_held items) ≡ row_held item ∷ drop (i + 1) (rows_held items)
row_next items i item below here =
    drop-map row_held i items ∙ ap (map row_held) (drop_more items i item below)
    ∙ sym (λ j. row_held (here j) ∷ drop-map row_held (i + 1) items j)

-- the row at a place is the one, or it is found behind it
pub found_here : (items : List SeenRow) (i : ℕ) (item : SeenRow) (t : ClosedType) (o : Option Row)
    → i < length items → item ≡ get_or items i item → same (closed_meaning item.of.now) t ≡ true
    → row_in (drop i (rows_held items)) t ≡ o → Some (row_held item) ≡ o
found_here items i item t o below here is so_far =
    sym (λ j. cond (is j) (Some (row_held item)) (row_in (drop (i + 1) (rows_held items)) t))
    ∙ ap (λ l. row_in l t) (sym (row_next items i item below here)) ∙ so_far

pub found_behind : (items : List SeenRow) (i : ℕ) (item : SeenRow) (t : ClosedType) (o : Option Row)
    → i < length items → item ≡ get_or items i item → same (closed_meaning item.of.now) t ≡ false
    → row_in (drop i (rows_held items)) t ≡ o → row_in (drop (i + 1) (rows_held items)) t ≡ o
found_behind items i item t o below here is so_far =
    sym (λ j. cond (is j) (Some (row_held item)) (row_in (drop (i + 1) (rows_held items)) t))
    ∙ ap (λ l. row_in l t) (sym (row_next items i item below here)) ∙ so_far
