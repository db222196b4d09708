-- The modules whose parts lie where the code puts them are those of the files.
use Rattle.std.proofs.Common.{◌≡◌, ℕ, suc, ◌+◌, ◌≤◌, ◌<◌, ◌⊎◌, inl, inr, Bool, true, false, not, List, []}
use Rattle.std.proofs.Common.{◌∷◌, ◌++◌, length, map, filter, Some, None, refl, ap, sym, ◌∙◌, arith, find}
use Rattle.std.proofs.Common.{cond, add-zero, zero-add, slice_get}
use Rattle.std.specs.Prelude.{position, if◌then◌else◌}
use Rattle.std.specs.List.{position_or_len}
use Rattle.std.proofs.lemmas.Bool.{lt-ltb, le-ltb, cases_lt}
use Rattle.std.proofs.lemmas.List.{length-map, map-append}
use Rattle.std.proofs.lemmas.List.Folds.{find_at}
use Rattle.std.proofs.lemmas.Option.{slice_get_past}
use Rattle.au_syntax.specs.Sizes.{joined}
use Rattle.au_modules.specs.declared.parts.Given.{Given}
use Rattle.au_modules.specs.Programs.{Entry, given, is_shipped, is_user_body, shipped_module, module_of}
use Rattle.au_modules.specs.Programs.{modules_of}
use Rattle.au_modules.specs.Slots.{file_at, parts_at, shipped_slots, body_slots, body_slot, gives_interface}

-- the first place at which a test passes is the same, whether of files or of what they give
place_given : (p : Given → Bool) (files : List Entry) → position_or_len p (map given files)
    ≡ position_or_len (λ e. p (given e)) files
place_given p [] = refl
place_given p (e ∷ files) = ap (λ k. cond (not (p (given e))) (1 + k) 0) (place_given p files)

-- what lies at the first such place is the first such file
found : (p : Given → Bool) (files : List Entry) → file_at files (position p (map given files))
    ≡ find (λ e. p (given e)) files
found p files = found_by (cases_lt (position_or_len p (map given files)) (length (map given files)))
  where
    found_by : (position_or_len p (map given files) < length (map given files))
        ⊎ (length (map given files) ≤ position_or_len p (map given files))
        → file_at files (position p (map given files)) ≡ find (λ e. p (given e)) files
    found_by (inl less) =
        rw (lt-ltb (position_or_len p (map given files)) (length (map given files)) less)
        (ap (slice_get files) (place_given p files) ∙ sym (find_at (λ e. p (given e)) files))
    found_by (inr more) =
        let past : length files ≤ position_or_len p (map given files) =
        omega (arith, length-map files given) in
        rw (le-ltb (position_or_len p (map given files)) (length (map given files)) more)
        (sym (find_at (λ e. p (given e)) files ∙ ap (slice_get files) (sym (place_given p files))
        ∙ slice_get_past files (position_or_len p (map given files)) past))

-- files lie behind others from an index on
abbrev LiesAt : List Entry → ℕ → List Entry → Type 0
LiesAt files n rest = (i : ℕ) → slice_get files (n + i) ≡ slice_get rest i

first_lies : (files : List Entry) (n : ℕ) (e : Entry) (rest : List Entry) → LiesAt files n (e ∷ rest)
    → slice_get files n ≡ Some e
first_lies files n e rest h = ap (slice_get files) (sym (add-zero n)) ∙ h 0

rest_lies : (files : List Entry) (n : ℕ) (e : Entry) (rest : List Entry) → LiesAt files n (e ∷ rest)
    → LiesAt files (n + 1) rest
rest_lies files n e rest h i =
    let same : n + 1 + i ≡ n + suc i = omega arith in
    ap (slice_get files) same ∙ h (suc i)

shipped_next : (files : List Entry) (n : ℕ) (e : Entry) (rest : List Entry) (b : Bool)
    → slice_get files n ≡ Some e
    → map (parts_at files) (shipped_slots (n + 1) (map given rest))
    ≡ map shipped_module (filter is_shipped rest)
    → map (parts_at files) (if b then record { name = joined e.tree.name; interface = Some n; body = None }
    ∷ shipped_slots (n + 1) (map given rest) else shipped_slots (n + 1) (map given rest))
    ≡ map shipped_module (cond b (e ∷ filter is_shipped rest) (filter is_shipped rest))
shipped_next files n e rest true here others =
    λ i. record { name = joined e.tree.name; interface = here i; body = None } ∷ others i
shipped_next files n e rest false here others = others

shipped_parts : (files : List Entry) (n : ℕ) (rest : List Entry) → LiesAt files n rest
    → map (parts_at files) (shipped_slots n (map given rest)) ≡ map shipped_module (filter is_shipped rest)
shipped_parts files n [] h = refl
shipped_parts files n (e ∷ rest) h =
    shipped_next files n e rest (is_shipped e) (first_lies files n e rest h)
    (shipped_parts files (n + 1) rest (rest_lies files n e rest h))

body_next : (files : List Entry) (n : ℕ) (e : Entry) (rest : List Entry) (b : Bool)
    → slice_get files n ≡ Some e
    → map (parts_at files) (body_slots (map given files) (n + 1) (map given rest))
    ≡ map (module_of files) (filter is_user_body rest)
    → map (parts_at files) (if b then body_slot (map given files) n (given e)
    ∷ body_slots (map given files) (n + 1) (map given rest) else body_slots (map given files) (n + 1)
    (map given rest))
    ≡ map (module_of files) (cond b (e ∷ filter is_user_body rest) (filter is_user_body rest))
body_next files n e rest true here others =
    λ i. record {
      name = joined e.tree.name;
      interface =
          found (gives_interface (joined e.tree.name)) files i;
      body = here i;
    } ∷ others i
body_next files n e rest false here others = others

body_parts : (files : List Entry) (n : ℕ) (rest : List Entry) → LiesAt files n rest
    → map (parts_at files) (body_slots (map given files) n (map given rest))
    ≡ map (module_of files) (filter is_user_body rest)
body_parts files n [] h = refl
body_parts files n (e ∷ rest) h =
    body_next files n e rest (is_user_body e) (first_lies files n e rest h)
    (body_parts files (n + 1) rest (rest_lies files n e rest h))

-- the modules whose parts lie there are those of the files
pub slots_are_modules : (files : List Entry)
    → map (parts_at files) (shipped_slots 0 (map given files)
    ++ body_slots (map given files) 0 (map given files)) ≡ modules_of files
slots_are_modules files =
    let all : LiesAt files 0 files = λ i. ap (slice_get files) (zero-add i) in
    map-append (parts_at files) (shipped_slots 0 (map given files))
    (body_slots (map given files) 0 (map given files))
    ∙ (λ i. shipped_parts files 0 files all i ++ body_parts files 0 files all i)
