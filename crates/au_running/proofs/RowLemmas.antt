-- The rows of a closed program say what the program itself says, and list the types that count.
use Rattle.std.proofs.Common.{◌≡◌, ℕ, zero, suc, ⊎_elim, true, List, [], ◌∷◌, ◌++◌, map, Some, IsPermutation}
use Rattle.std.proofs.Common.{refl, sym, ap, subst, arith}
use Rattle.std.specs.Prelude.{Contains, slice_get}
use Rattle.std.specs.List.{AllByRecursion}
use Rattle.std.proofs.lemmas.List.Elements.{All-from_recursion, recursion_from_All, Contains-append_cases}
use Rattle.std.proofs.lemmas.List.Elements.{Contains-push_cases}
use Rattle.std.proofs.lemmas.List.Sorted.{All-permutation, IsPermutation-sym}
use Rattle.std.proofs.lemmas.Bool.{or_cases, or_left, or_right}
use Rattle.au_modules.specs.Programs.{ModuleParts}
use Rattle.au_names.specs.HeadsOf.{heads_of}
use Rattle.au_types.specs.declared.headings.Head.{Head}
use Rattle.au_types.specs.declared.types.DeclAt.{DeclAt}
use Rattle.au_type_texts.specs.Same.{same}
use Rattle.au_type_texts.specs.Types.{ClosedType}
use Rattle.au_type_texts.proofs.SameLemmas.{same_is, same_self}
use Rattle.au_graphs.specs.Reached.{Has, TellsSame, follows, has, start}
use Rattle.au_graphs.proofs.FoundLemmas.{has_all}
use Rattle.au_graphs.proofs.HasLemmas.{has_back, has_front}
use Rattle.au_closed_trees.specs.Occurring as occur
use Rattle.au_closed_trees.specs.Occurring.{counts_in, occurring, occurring_in_fields}
use Rattle.au_closed_trees.specs.Types.{types_in_block}
use Rattle.au_closing.specs.Closes.{ClosedFunction}
use Rattle.au_lowering.specs.Programs.{ClosesTypes, TypeRow, row_of, types_in_function, types_in_functions}
use Rattle.au_closed_meanings.specs.InRow.{RowsSay}
use Rattle.au_closed_meanings.specs.Listed.{ListsTypes, counts_by, rows_for}
use Rattle.au_closed_meanings.proofs.ListedLemmas.{rows_say}
use Rattle.au_lowering.specs.Closed.{row_seen}

types_told : TellsSame same
types_told = record { agrees = same_is; itself = same_self }

-- a type that is contained in a list stands in it
contains_has : (types : List ClosedType) (t : ClosedType) → Contains types t → Has same types t
contains_has [] t h = absurd (omega (arith, h.1))
contains_has (k ∷ rest) t h =
    ⊎_elim
    (λ one. ⊎_elim (λ none. absurd (omega (arith, none.1)))
    (λ e. or_left (same t k) (has same rest t) (subst (λ x. same x k ≡ true) e (same_self k)))
    (Contains-push_cases [] k t one))
    (λ more. or_right (same t k) (has same rest t) (contains_has rest t more))
    (Contains-append_cases (k ∷ []) rest t h)

-- the types of rows
abbrev pub types_of : List TypeRow → List ClosedType
types_of rows = map (λ (row : TypeRow). row.of) rows

-- ---- what stands in rows

-- the type of a row stands in a list
abbrev IsIn : List ClosedType → TypeRow → Type 0
IsIn types row = Has same types row.of

-- where all types of rows stand in a list, so does that of each row
in_each : (types : List ClosedType) (rows : List TypeRow)
    → ((t : ClosedType) → Has same (types_of rows) t → Has same types t) → AllByRecursion (IsIn types) rows
in_each types [] all = tt
in_each types (row ∷ rest) all = (
  all row.of (or_left (same row.of row.of) (has same (types_of rest) row.of) (same_self row.of)),
  in_each types rest (λ t h. all t (or_right (same t row.of) (has same (types_of rest) t) h)),
)

-- and where that of each does, so do all
each_in : (types : List ClosedType) (rows : List TypeRow) → AllByRecursion (IsIn types) rows
    → (t : ClosedType) → Has same (types_of rows) t → Has same types t
each_in types [] each t h = absurd cc
each_in types (row ∷ rest) each t h =
    ⊎_elim (λ here. subst (λ x. Has same types x) (sym (same_is t row.of here)) each.0)
    (each_in types rest each.1 t)
    (or_cases (same t row.of) (has same (types_of rest) t) h)

-- rows in another order say the same
moved : (P : TypeRow → Type 0) (rows others : List TypeRow) → IsPermutation rows others
    → AllByRecursion P rows → AllByRecursion P others
moved P rows others order each =
    recursion_from_All P others (All-permutation P rows others order (All-from_recursion P rows each))

moved_in : (rows others : List TypeRow) → IsPermutation rows others → (t : ClosedType)
    → Has same (types_of others) t → Has same (types_of rows) t
moved_in rows others order t h =
    each_in (types_of rows) others
    (moved (IsIn (types_of rows)) rows others order (in_each (types_of rows) rows (λ x k. k))) t h

-- ---- functions

-- what occurs in one of some functions occurs in them
in_functions : (heads : List (DeclAt × Head)) (functions : List ClosedFunction) (number : ℕ)
    (f : ClosedFunction) → slice_get functions number ≡ Some f → (t : ClosedType)
    → Has same (types_in_function heads f) t → Has same (types_in_functions heads functions) t
in_functions heads [] number f at t h = absurd (grind arith)
in_functions heads (g ∷ rest) zero f at t h =
    let is : g ≡ f = cc in
    has_front same (types_in_function heads g) (types_in_functions heads rest) t
    (subst (λ x. Has same (types_in_function heads x) t) (sym is) h)
in_functions heads (g ∷ rest) (suc number) f at t h =
    has_back same (types_in_function heads g) (types_in_functions heads rest) t
    (in_functions heads rest number f at t h)

module _ (program : List ModuleParts) where
  -- ---- rows that are those of their types

  abbrev IsOwn : TypeRow → Type 0
  IsOwn row = row ≡ row_of program row.of

  own_rows : (types : List ClosedType) → AllByRecursion IsOwn (map (row_of program) types)
  own_rows [] = tt
  own_rows (t ∷ rest) = (refl, own_rows rest)

  types_back : (types : List ClosedType) → types_of (map (row_of program) types) ≡ types
  types_back [] = refl
  types_back (t ∷ rest) = ap (λ l. t ∷ l) (types_back rest)

  -- such rows are those that are made for their types
  rows_made : (rows : List TypeRow) → AllByRecursion IsOwn rows
      → map row_seen rows ≡ rows_for program (types_of rows)
  rows_made [] each = refl
  rows_made (row ∷ rest) each = λ i. row_seen (each.0 i) ∷ rows_made rest each.1 i

  module _ (functions : List ClosedFunction) (rows : List TypeRow)
      (closes : ClosesTypes program functions rows) where
    -- a type is reached exactly where it has a row
    to_row : (t : ClosedType) → Has same closes.reached t → Has same (types_of rows) t
    to_row t h =
        moved_in rows (map (row_of program) closes.reached)
        (IsPermutation-sym (map (row_of program) closes.reached) rows closes.are_theirs) t
        (subst (λ l. Has same l t) (sym (types_back closes.reached)) h)

    from_row : (t : ClosedType) → Has same (types_of rows) t → Has same closes.reached t
    from_row t h =
        subst (λ l. Has same l t) (types_back closes.reached)
        (moved_in (map (row_of program) closes.reached) rows closes.are_theirs t h)

    -- what occurs in a function has a row
    started : (number : ℕ) (f : ClosedFunction) → slice_get functions number ≡ Some f → (t : ClosedType)
        → Has same (types_in_function (heads_of program) f) t → Has same (types_of rows) t
    started number f at t h =
        to_row t (has_all same types_told (occur.follows program)
        (types_in_functions (heads_of program) functions) closes.reached closes.lists.order t
        (start t (in_functions (heads_of program) functions number f at t h)))

    -- the types that occur in functions and in fields have rows
    pub lists_types : ListsTypes program functions (types_of rows)
    lists_types = record {
      parameters = λ number f at of h.
          let heads = heads_of program in
          let in_parameters = occurring_in_fields (counts_in true heads) f.parameters in
          let in_result = occurring (counts_in true heads) f.result in
          started number f at of
          (has_front same (in_parameters ++ in_result) (types_in_block heads f.body) of
          (has_front same in_parameters in_result of (contains_has in_parameters of h)));
      notes = λ number f at of h.
          let heads = heads_of program in
          let in_parameters = occurring_in_fields (counts_in true heads) f.parameters in
          let in_result = occurring (counts_in true heads) f.result in
          started number f at of
          (has_back same (in_parameters ++ in_result) (types_in_block heads f.body) of
          (contains_has (types_in_block heads f.body) of h));
      inside = λ one of h k.
          to_row of (has_all same types_told (occur.follows program)
          (types_in_functions (heads_of program) functions) closes.reached closes.lists.order of
          (follows one of (closes.lists.reached one (from_row one h))
          (contains_has (occur.follows program one) of k)));
    }

    -- rows are those that are made for their types
    pub made_rows : map row_seen rows ≡ rows_for program (types_of rows)
    made_rows =
        rows_made rows (moved IsOwn (map (row_of program) closes.reached) rows closes.are_theirs
        (own_rows closes.reached))

    -- so they say what the program itself says
    pub rows_say_so : RowsSay (counts_by (types_of rows)) program (map row_seen rows)
    rows_say_so =
        subst (λ l. RowsSay (counts_by (types_of rows)) program l) (sym made_rows)
        (rows_say program (types_of rows))
