-- What the table of the records and unions of a body answers.
use Rattle.std.proofs.Common.{◌≡◌, ℕ, suc, ◌+◌, ◌<◌, ◌≤◌, Bool, true, false, cond, List, [], ◌∷◌, ◌++◌}
use Rattle.std.proofs.Common.{length, find, drop, get_or, Option, None, Some, refl, sym, ap, ◌∙◌, arith}
use Rattle.std.specs.Prelude.{slice_get}
use Rattle.std.specs.Option.{option_map}
use Rattle.std.specs.Str.{bytes_eq}
use Rattle.std.proofs.lemmas.List.{drop_all, drop_more}
use Rattle.std.proofs.lemmas.Option.{none-some, same_Some, slice_get-get_or}
use Rattle.au_syntax.specs.declared.modules.Part.TheVariants.{Body}
use Rattle.au_syntax.specs.Plain.{Bytes, PlainDeclaration, PlainModule}
use Rattle.au_types.specs.Tables as tables
use Rattle.au_types.specs.Tables.{with_all, with_pair}
use Rattle.au_types.proofs.TableLemmas.{with_all-firsts, with_all-none, with_all-one, find-firsts}
use Rattle.au_modules.specs.Programs.{ModuleParts}
use Rattle.au_modules.specs.Seen.{body_tree}
use Rattle.au_names.specs.Defining.{indexed, wholes_at, wholes_from, wholes_of}
use Rattle.au_names.specs.Exporting.{declarations_seen}
use Rattle.au_names.specs.Owned.{declarations_in}
use Rattle.au_names.specs.Standing.{Standing, body_at, is_named, is_whole, standing_from, whole_name}
use Rattle.au_names.specs.Walks.{written, written_all}
use Rattle.au_names.proofs.ExportLemmas.{body_seen, nothing}
use Rattle.au_names.proofs.PutLemmas.{with_all-append}
use Rattle.au_names.proofs.StandingLemmas.{Written, stands}

-- ---- the table is made

-- a name is put with its index, by equal names
pub whole_put : (before after : List (Bytes × ℕ)) (index : ℕ) (name same : Bytes) (found : Option Bytes)
    → Some same ≡ found → name ≡ same → after ≡ with_pair before name index
    → after ≡ with_all before (indexed index found)
whole_put before after index name same found is e h =
    h ∙ ap (λ n. with_pair before n index) e
    ∙ sym (with_all-one before same index)
    ∙ ap (λ o. with_all before (indexed index o)) is

-- one more declaration has its index
pub wholes_step : (xs : List Written) (i : ℕ) (x : Written) (before after goal : List (Bytes × ℕ))
    → i < length xs → x ≡ get_or xs i x
    → with_all before (wholes_from i (written_all (drop i xs))) ≡ goal
    → after ≡ with_all before (indexed i (whole_name (written x)))
    → with_all after (wholes_from (i + 1) (written_all (drop (i + 1) xs))) ≡ goal
unfolding wholes_from
wholes_step xs i x before after goal within is old new =
    let rest = wholes_from (i + 1) (written_all (drop (i + 1) xs)) in
    ap (λ t. with_all t rest) new
    ∙ sym (with_all-append before (indexed i (whole_name (written x))) rest)
    ∙ ap (λ y. with_all before (indexed i (whole_name (written y)) ++ rest)) is
    ∙ ap (λ r. with_all before (wholes_from i (written_all r))) (sym (drop_more xs i x within))
    ∙ old

-- all have theirs
pub wholes_end : (xs : List Written) (i : ℕ) (table goal : List (Bytes × ℕ)) → length xs ≤ i
    → with_all table (wholes_from i (written_all (drop i xs))) ≡ goal → table ≡ goal
unfolding wholes_from
wholes_end xs i table goal past h =
    sym
    (ap (λ r. with_all table (wholes_from i (written_all r))) (drop_all i xs past) ∙ with_all-none table)
    ∙ h

-- that of the body of which these declarations are seen
pub wholes_seen : (program : List ModuleParts) (place : ℕ) (seen : Option PlainModule)
    → place < length program → seen ≡ body_tree (slice_get program place)
    → option_map wholes_of (slice_get program place)
    ≡ Some (with_all [] (wholes_from 0 (declarations_seen seen)))
wholes_seen program place seen within h = by (slice_get program place) refl h
  where
    by : (o : Option ModuleParts) → slice_get program place ≡ o → seen ≡ body_tree o
        → option_map wholes_of o ≡ Some (with_all [] (wholes_from 0 (declarations_seen seen)))
    by None e k =
        absurd
        (none-some (get_or program place nothing) (sym e ∙ slice_get-get_or program place nothing within))
    by (Some m) e k =
        ap (λ ds. Some (with_all [] (wholes_from 0 ds))) (body_seen m ∙ ap declarations_seen (sym k))

-- that of no declaration
pub no_wholes : ◌≡◌ {A = List (Bytes × ℕ)} [] (with_all [] (wholes_from 0 []))
unfolding wholes_from with_all
no_wholes = refl

-- ---- what is found in it

-- the index of the first record or union of a name
found_from : (place : ℕ) (name : Bytes) (first : ℕ) (ds : List PlainDeclaration)
    → tables.find name (wholes_from first ds)
    ≡ option_map (λ (s : Standing). s.index) (find (is_whole name) (standing_from place Body first ds))
unfolding wholes_from standing_from
found_from place name first [] = refl
found_from place name first (d ∷ ds) = by (whole_name d) refl (found_from place name (first + 1) ds)
  where
    there : Option Standing
    there = find (is_whole name) (standing_from place Body (first + 1) ds)

    one : (n : Bytes) (b : Bool) → bytes_eq name n ≡ b → whole_name d ≡ Some n
        → tables.find name (wholes_from (first + 1) ds) ≡ option_map (λ (s : Standing). s.index) there
        → cond (bytes_eq name n) (Some first) (tables.find name (wholes_from (first + 1) ds))
        ≡ option_map (λ (s : Standing). s.index)
        (cond (is_named name (whole_name d)) (Some (stands place Body first d)) there)
    one n true test is rest =
        ap (λ c. cond c (Some first) (tables.find name (wholes_from (first + 1) ds))) test
        ∙ sym
        (ap (λ o. option_map (λ (s : Standing). s.index)
        (cond (is_named name o) (Some (stands place Body first d)) there)) is
        ∙ ap (λ c. option_map (λ (s : Standing). s.index) (cond c (Some (stands place Body first d)) there))
        test)
    one n false test is rest =
        ap (λ c. cond c (Some first) (tables.find name (wholes_from (first + 1) ds))) test
        ∙ rest
        ∙ sym
        (ap (λ o. option_map (λ (s : Standing). s.index)
        (cond (is_named name o) (Some (stands place Body first d)) there)) is
        ∙ ap (λ c. option_map (λ (s : Standing). s.index) (cond c (Some (stands place Body first d)) there))
        test)

    by : (o : Option Bytes) → whole_name d ≡ o
        → tables.find name (wholes_from (first + 1) ds) ≡ option_map (λ (s : Standing). s.index) there
        → tables.find name (indexed first (whole_name d) ++ wholes_from (first + 1) ds)
        ≡ option_map (λ (s : Standing). s.index)
        (cond (is_named name (whole_name d)) (Some (stands place Body first d)) there)
    by None is rest =
        ap (λ o. tables.find name (indexed first o ++ wholes_from (first + 1) ds)) is
        ∙ rest
        ∙ sym
        (ap (λ o. option_map (λ (s : Standing). s.index)
        (cond (is_named name o) (Some (stands place Body first d)) there)) is)
    by (Some n) is rest =
        ap (λ o. tables.find name (indexed first o ++ wholes_from (first + 1) ds)) is
        ∙ one n (bytes_eq name n) refl is rest

found_whole : (place : ℕ) (name : Bytes) (o : Option ModuleParts)
    → tables.find name (wholes_at o)
    ≡ option_map (λ (s : Standing). s.index) (find (is_whole name) (body_at place o))
found_whole place name None = refl
found_whole place name (Some m) =
    let pairs = wholes_from 0 (declarations_in m.body) in
    ap (tables.find name) (with_all-firsts pairs) ∙ find-firsts name pairs
    ∙ found_from place name 0 (declarations_in m.body)

-- what is found stands at its index
stands_at : (place : ℕ) (q : Standing → Bool) (first : ℕ) (ds : List PlainDeclaration) (s : Standing)
    → find q (standing_from place Body first ds) ≡ Some s
    → (k : ℕ) × (s.index ≡ first + k) × (slice_get (standing_from place Body first ds) k ≡ Some s)
unfolding standing_from
stands_at place q first [] s h = absurd (none-some s h)
stands_at place q first (d ∷ ds) s h =
    by (q (stands place Body first d)) h (λ e. stands_at place q (first + 1) ds s e)
  where
    by : (b : Bool)
        → cond b (Some (stands place Body first d)) (find q (standing_from place Body (first + 1) ds))
        ≡ Some s
        → (find q (standing_from place Body (first + 1) ds) ≡ Some s
        → (k : ℕ) × (s.index ≡ first + 1 + k)
        × (slice_get (standing_from place Body (first + 1) ds) k ≡ Some s))
        → (k : ℕ) × (s.index ≡ first + k)
        × (slice_get (stands place Body first d ∷ standing_from place Body (first + 1) ds) k ≡ Some s)
    by true e on =
        let index : first ≡ s.index =
        ap (λ (t : Standing). t.index) (same_Some (stands place Body first d) s e) in
        (0, omega (arith, index), e)
    by false e on =
        let r = on e in
        let same = r.1 in
        (suc r.0, omega (arith, same), r.2)

-- what has the index that is found is the first record or union of the name
pub whole_there : (place : ℕ) (name : Bytes) (o : Option ModuleParts) (index : ℕ)
    → Some index ≡ tables.find name (wholes_at o)
    → slice_get (body_at place o) index ≡ find (is_whole name) (body_at place o)
whole_there place name None index h = refl
whole_there place name (Some m) index h =
    by (find (is_whole name) (body_at place (Some m))) refl (h ∙ found_whole place name (Some m))
  where
    by : (s : Option Standing) → find (is_whole name) (body_at place (Some m)) ≡ s
        → Some index ≡ option_map (λ (t : Standing). t.index) s
        → slice_get (body_at place (Some m)) index ≡ s
    by None e k = absurd (none-some index (sym k))
    by (Some s) e k =
        let at = stands_at place (is_whole name) 0 (declarations_in m.body) s e in
        let same : index ≡ s.index = same_Some index s.index k in
        let counted = at.1 in
        let there : index ≡ at.0 = omega (arith, same, counted) in
        ap (slice_get (body_at place (Some m))) there ∙ at.2

-- where none is found there is none
pub whole_missing : (place : ℕ) (name : Bytes) (o : Option ModuleParts)
    → None ≡ tables.find name (wholes_at o) → None ≡ find (is_whole name) (body_at place o)
whole_missing place name o h =
    by (find (is_whole name) (body_at place o)) (h ∙ found_whole place name o)
  where
    by : (s : Option Standing) → None ≡ option_map (λ (t : Standing). t.index) s → None ≡ s
    by None k = refl
    by (Some s) k = absurd (none-some s.index k)
