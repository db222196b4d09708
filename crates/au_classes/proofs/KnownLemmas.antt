-- Rows with the places of their instances.
use Rattle.std.proofs.Common.{◌≡◌, ◌⊎◌, inl, inr, arith, ℕ, ◌+◌, ◌<◌, ◌≤◌, suc, Bool, true, false, cond, List}
use Rattle.std.proofs.Common.{[], ◌∷◌, ◌++◌, length, map, drop, get_or, find, Option, None, Some, refl, sym}
use Rattle.std.proofs.Common.{ap, ◌∙◌, add-one, drop-cons}
use Rattle.std.specs.Prelude.{slice_get}
use Rattle.std.specs.Option.{option_map}
use Rattle.std.proofs.lemmas.List.{drop_all}
use Rattle.std.proofs.lemmas.Option.{slice_get_cases}
use Rattle.au_base.specs.declared.places.Pos.{Pos}
use Rattle.au_base.proofs.OptionLemmas.{map_none}
use Rattle.au_types.specs.declared.types.DeclAt.{DeclAt}
use Rattle.au_instances.specs.declared.constructors.Constructor.{Constructor}
use Rattle.au_instances.specs.declared.rows.Row as code
use Rattle.au_instances.specs.Rows.{Row, row_said, rows_said}
use Rattle.au_instances.specs.Tables.{is_row_of, row_of, row_with}
use Rattle.au_classes.specs.Faults.{Known, is_like, place_of}
use Rattle.au_classes.specs.ClassViews.{known_rows}

abbrev row_in : Known → Row
row_in known = known.row

-- the row of what is found is the row that is found
rows_found : (class : DeclAt) (one : Constructor) (places : List Pos) (rows : List Row) → length places ≡ length rows
    → option_map row_in (find (is_like class (Some one)) (known_rows places rows)) ≡ row_of rows class one
rows_found class one [] [] same = refl
rows_found class one [] (row ∷ rows) same = absurd cc
rows_found class one (at ∷ places) [] same = absurd cc
rows_found class one (at ∷ places) (row ∷ rows) same =
    by (is_row_of class one row) (rows_found class one places rows (cc))
  where
    by : (b : Bool) → option_map row_in (find (is_like class (Some one)) (known_rows places rows))
        ≡ row_of rows class one
        → option_map row_in (cond b (Some (record { at = at; row = row }))
        (find (is_like class (Some one)) (known_rows places rows))) ≡ cond b (Some row)
        (row_of rows class one)
    by true rest = refl
    by false rest = rest

-- none is found where no row is
pub none_like : (class : DeclAt) (one : Constructor) (places : List Pos) (rows : List Row) →
    length places ≡ length rows → row_of rows class one ≡ None
    → find (is_like class (Some one)) (known_rows places rows) ≡ None
none_like class one places rows same none =
    map_none row_in (find (is_like class (Some one)) (known_rows places rows))
    (rows_found class one places rows same ∙ none)

-- no row is found where none is
pub none_with : (class : DeclAt) (o : Option Constructor) (places : List Pos) (rows : List Row) →
    length places ≡ length rows → find (is_like class o) (known_rows places rows) ≡ None
    → row_with rows class o ≡ None
none_with class None places rows same none = refl
none_with class (Some one) places rows same none = sym (rows_found class one places rows same)
    ∙ ap (option_map row_in) none

-- nothing is like what has no constructor
pub like_none : (class : DeclAt) (known : List Known) → find (is_like class None) known ≡ None
like_none class [] = refl
like_none class (one ∷ rest) = like_none class rest

-- one more row with its place
pub known_more : (places : List Pos) (rows : List Row) (at : Pos) (row : Row) → length places ≡ length rows
    → known_rows (places ++ at ∷ []) (rows ++ row ∷ []) ≡ known_rows places rows ++ record { at = at; row = row } ∷ []
known_more [] [] at row same = refl
known_more [] (first ∷ rows) at row same = absurd cc
known_more (first ∷ places) [] at row same = absurd cc
known_more (first ∷ places) (one ∷ rows) at row same = ap (λ rest. record { at = first; row = one } ∷ rest)
    (known_more places rows at row (cc))

-- ---- a walk through rows with their places

module _ (class : DeclAt) (one : Constructor) (places : List Pos) (rows : List code.Row) (i : ℕ) where
  abbrev found_from : ℕ → Option Known
  found_from k = find (is_like class (Some one)) (known_rows (drop k places) (rows_said (drop k rows)))

  known_left : (at : Pos) (row : code.Row) → i < length places → i < length rows → at ≡ get_or places i at →
      row ≡ get_or rows i row
      → known_rows (drop i places) (rows_said (drop i rows)) ≡ record { at = at; row = row_said row } ∷
      known_rows (drop (i + 1) places) (rows_said (drop (i + 1) rows))
  known_left at row h k here there =
      ap (λ ps. known_rows ps (rows_said (drop i rows))) (drop-cons places i at h)
      ∙ ap (λ rs. known_rows (get_or places i at ∷ drop (suc i) places) (rows_said rs)) (drop-cons rows i row k)
      ∙ ap (λ a. known_rows (a ∷ drop (suc i) places) (rows_said (get_or rows i row ∷ drop (suc i) rows))) (sym here)
      ∙ ap (λ r. record { at = at; row = row_said r } ∷ known_rows (drop (suc i) places)
      (rows_said (drop (suc i) rows))) (sym there)
      ∙ ap (λ n. record { at = at; row = row_said row } ∷ known_rows (drop n places)
      (rows_said (drop n rows))) (sym (add-one i))

  -- the next row is the first
  pub place_here : (at : Pos) (row : code.Row) (is : Bool) → i < length places → i < length rows →
      at ≡ get_or places i at → row ≡ get_or rows i row
      → find (is_like class (Some one)) (known_rows places (rows_said rows)) ≡ found_from i →
      is ≡ is_row_of class one (row_said row) → is ≡ true
      → Some at ≡ option_map place_of (find (is_like class (Some one)) (known_rows places (rows_said rows)))
  place_here at row is h k here there so_far tested passes =
      sym
      (ap (option_map place_of)
      (so_far
      ∙ ap (λ known. find (is_like class (Some one)) known) (known_left at row h k here there)
      ∙ ap (λ b. cond b (Some (record { at = at; row = row_said row })) (found_from (i + 1))) (sym tested ∙ passes)))

  -- it isn't
  pub place_next : (row : code.Row) (is : Bool) → i < length places → i < length rows → row ≡ get_or rows i row
      → find (is_like class (Some one)) (known_rows places (rows_said rows)) ≡ found_from i →
      is ≡ is_row_of class one (row_said row) → is ≡ false
      → find (is_like class (Some one)) (known_rows places (rows_said rows)) ≡ found_from (i + 1)
  place_next row is h k there so_far tested fails = by (slice_get_cases places i).1
    where
      by : ((at : Pos) × (i < length places) × (slice_get places i ≡ Some at) × (get_or places i at ≡ at))
          ⊎ ((length places ≤ i) × (slice_get places i ≡ None))
          → find (is_like class (Some one)) (known_rows places (rows_said rows)) ≡ found_from (i + 1)
      by (inl here) =
          so_far
          ∙ ap (λ known. find (is_like class (Some one)) known) (known_left here.0 row h k (sym here.3) there)
          ∙ ap (λ b. cond b (Some (record { at = here.0; row = row_said row })) (found_from (i + 1)))
          (sym tested ∙ fails)
      by (inr past) = absurd (omega (arith, past.0, h))

  -- no row is left
  pub place_end : length places ≤ i → find (is_like class (Some one)) (known_rows places (rows_said rows))
      ≡ found_from i
      → None ≡ option_map place_of (find (is_like class (Some one)) (known_rows places (rows_said rows)))
  place_end past so_far =
      sym
      (ap (option_map place_of)
      (so_far ∙ ap (λ ps. find (is_like class (Some one)) (known_rows ps (rows_said (drop i rows))))
      (drop_all i places past)))
