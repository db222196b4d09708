-- What rows tell of types, by their keys.
use Rattle.std.proofs.Common.{◌≡◌, Bool, true, false, cond, ℕ, ◌+◌, ◌<◌, drop, get_or, length, List, []}
use Rattle.std.proofs.Common.{◌∷◌, Option, Some, None, Result, Ok, Err, IfOk, Vec, is_some, map, refl, sym}
use Rattle.std.proofs.Common.{ap, ◌∙◌}
use Rattle.std.specs.List.{find as first}
use Rattle.std.specs.Option.{option_map}
use Rattle.std.specs.Global.{Global}
use Rattle.std.specs.Map.{lookup}
use Rattle.std.specs.Str.{bytes_eq}
use Rattle.au_base.specs.declared.faults.Memory.{Memory}
use Rattle.au_graphs.specs.Finding.{numbers}
use Rattle.std.specs.Cmp.Lexicographic.{nat_list_eq_equiv}
use Rattle.au_type_texts.specs.Keys.{key_of}
use Rattle.au_closed_programs.specs.Programs.{TypeRow}
use Rattle.au_closed_programs.specs.Views.{row_said, rows_said}
use Rattle.au_closed_programs.specs.declared.rows.TypeRow as found
use Rattle.std.proofs.lemmas.List.{drop_more}
use Rattle.au_type_texts.specs.Same.{same}
use Rattle.au_type_texts.specs.Types.{ClosedType}
use Rattle.au_low.specs.declared.code.LowType.{LowType}
use Rattle.au_lowering.specs.Closed.{told_by, told_in}
use Rattle.au_lowering.specs.Rows.{rows_told}
use Rattle.au_lowering.proofs.CodedLemmas.{same_key}
use Rattle.au_types.specs.Tables.{find, has_name, pairs_by, with_all, with_pair}
use Rattle.au_types.proofs.TableLemmas.{find-firsts, find-pairs_by, with_all-firsts}

-- one row more is put
pub one_row : (pairs : List (List ℕ × LowType)) (row : TypeRow) (rest : List TypeRow)
    → with_all (with_pair pairs (key_of row.of) (told_by (Some row))) (rows_told rest)
    ≡ with_all pairs (rows_told (row ∷ rest))
unfolding with_all
one_row pairs row rest = refl

-- no row is left
pub no_row : (pairs : List (List ℕ × LowType)) → with_all pairs (rows_told []) ≡ pairs
unfolding with_all
no_row pairs = refl

-- the row at a place is put
pub row_put : (items : List found.TypeRow) (i : ℕ) (item : found.TypeRow)
    (old more all : List (List ℕ × LowType)) → i < length items → item ≡ get_or items i item
    → more ≡ with_pair old (key_of (row_said item).of) (told_by (Some (row_said item)))
    → with_all old (rows_told (rows_said (drop i items))) ≡ all
    → with_all more (rows_told (rows_said (drop (i + 1) items))) ≡ all
row_put items i item old more all below here put so_far =
    ap (λ pairs. with_all pairs (rows_told (rows_said (drop (i + 1) items)))) put
    ∙ one_row old (row_said item) (rows_said (drop (i + 1) items))
    ∙ ap (λ (x : found.TypeRow). with_all old (rows_told (rows_said (x ∷ drop (i + 1) items)))) here
    ∙ ap (λ l. with_all old (rows_told (rows_said l))) (sym (drop_more items i item below))
    ∙ so_far

turned : (t u : ClosedType) → bytes_eq (key_of t) (key_of u) ≡ same u t
turned t u = nat_list_eq_equiv.symm (key_of t) (key_of u) ∙ same_key u t

found_row : (rows : List TypeRow) (t : ClosedType) → find (key_of t) (rows_told rows)
    ≡ option_map (λ (row : TypeRow). told_by (Some row)) (first (λ (row : TypeRow). same row.of t) rows)
found_row [] t = refl
found_row (row ∷ rest) t =
    (λ i. cond (turned t row.of i) (Some (told_by (Some row))) (found_row rest t i))
    ∙ by (same row.of t)
  where
    by : (b : Bool) → cond b (Some (told_by (Some row)))
        (option_map (λ (row : TypeRow). told_by (Some row))
        (first (λ (row : TypeRow). same row.of t) rest))
        ≡ option_map (λ (row : TypeRow). told_by (Some row))
        (cond b (Some row) (first (λ (row : TypeRow). same row.of t) rest))
    by true = refl
    by false = refl

low_or : LowType → Option LowType → LowType
low_or low None = low
low_or low (Some found) = found

-- what is told under a key is told of its type
told_one : (rows : List TypeRow) (t : ClosedType) (low : LowType) → Some low
    ≡ find (key_of t) (with_all [] (rows_told rows)) → low ≡ told_in rows t
unfolding low_or
told_one rows t low is =
    by (first (λ (row : TypeRow). same row.of t) rows)
    (is ∙ ap (find (key_of t)) (with_all-firsts (rows_told rows)) ∙ find-firsts (key_of t)
    (rows_told rows) ∙ found_row rows t)
  where
    by : (o : Option TypeRow) → Some low ≡ option_map (λ (row : TypeRow). told_by (Some row)) o → low
        ≡ told_by o
    by None e = absurd cc
    by (Some row) e = ap (low_or low) e

head_or : LowType → List (Option LowType) → Option LowType
head_or low [] = None
head_or low (x ∷ xs) = x

tail_of : List (Option LowType) → List (Option LowType)
tail_of [] = []
tail_of (x ∷ xs) = xs

-- and so for several
pub told_all : (rows : List TypeRow) (types : List ClosedType) (all : List LowType)
    → map Some all ≡ map (λ key. find key (with_all [] (rows_told rows))) (map key_of types) → all
    ≡ map (told_in rows) types
unfolding head_or tail_of
told_all rows [] [] e = refl
told_all rows [] (low ∷ all) e = absurd cc
told_all rows (t ∷ ts) [] e = absurd cc
told_all rows (t ∷ ts) (low ∷ all) e =
    let one : low ≡ told_in rows t = told_one rows t low (ap (head_or low) e) in
    let rest : all ≡ map (told_in rows) ts = told_all rows ts all (ap tail_of e) in
    λ i. one i ∷ rest i

-- ---- the table of the code

-- whether a key is there
pub told_there : (es : List (Vec ℕ Global × LowType)) (slice key : List ℕ) (b r : Bool) → slice ≡ key
    → r ≡ is_some (lookup (λ (k : Vec ℕ Global). bytes_eq slice k.items) es) → r ≡ b
    → has_name key (pairs_by es numbers) ≡ b
told_there es slice key b r is says answer =
    ap is_some (find-pairs_by numbers key es ∙ ap
    (λ n. lookup (λ (k : Vec ℕ Global). bytes_eq n k.items) es) (sym is)) ∙ sym says ∙ answer

-- what is found there
pub told_found : (es : List (Vec ℕ Global × LowType)) (slice key : List ℕ)
    (result : Result LowType Memory) (now : LowType) → slice ≡ key
    → Some now ≡ lookup (λ (k : Vec ℕ Global). bytes_eq slice k.items) es
    → IfOk result (λ made. made ≡ now)
    → IfOk result (λ low. Some low ≡ find key (pairs_by es numbers))
told_found es slice key (Ok made) now is found copied =
    ap Some copied ∙ found ∙ ap (λ n. lookup (λ (k : Vec ℕ Global). bytes_eq n k.items) es) is ∙ sym
    (find-pairs_by numbers key es)
told_found es slice key (Err fault) now is found copied = tt
