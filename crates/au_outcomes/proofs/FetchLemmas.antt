-- Files that are fetched in order.
use Rattle.std.proofs.Common.{◌≡◌, ℕ, zero, suc, ◌+◌, ◌<◌, ◌≤◌, Bool, true, false, cond, List, [], ◌∷◌, ◌++◌}
use Rattle.std.proofs.Common.{length, get_or, take, drop, map, Option, Some, None, IfSome, Vec, String, ap}
use Rattle.std.proofs.Common.{◌∙◌, sym, refl, subst, arith, ◌⊎◌, inl, inr, length-append}
use Rattle.std.specs.Prelude.{position}
use Rattle.std.specs.Global.{Global}
use Rattle.std.specs.List.{All, position_or_len}
use Rattle.std.specs.Str.{bytes_eq}
use Rattle.std.specs.String.{string_bytes}
use Rattle.std.proofs.lemmas.Bool.{cases_lt, lt-ltb}
use Rattle.std.proofs.lemmas.List.{drop_more, length-map, map-append, take_more, take-append-drop}
use Rattle.std.proofs.lemmas.List.Quantifiers.{position-Some}
use Rattle.std.proofs.lemmas.List.Sums.{fails_before_first}
use Rattle.au_base.specs.Limits.{most_file_bytes}
use Rattle.au_base.specs.Outside.{Files}
use Rattle.au_base.proofs.TextLemmas.{bytes_self, bytes_same}
use Rattle.au_outcomes.specs.Halts.{AreFilesOf, AreTold, Extends, FirstUnhad, IsUnhad, StopsIn, Tells, bytes_in}
use Rattle.au_accepted.specs.Files.{AreFiles, IsFile, most_files}
use Rattle.au_outcomes.specs.Outcomes.{BytesCome, FewCome, FilesCome, IsFirst, IsTooLarge, file_limit}
use Rattle.au_outcomes.specs.declared.outcomes.Aim.{Aim}
use Rattle.au_outcomes.specs.declared.outcomes.Outcome.{Outcome}
use Rattle.au_outcomes.specs.declared.outcomes.Outcome.TheVariants as outcome
use Rattle.au_outcomes.proofs.HaltLemmas.{is_of_files}

-- some files that are told
pub told_files : (told : Option Files) → (files : Files) × AreTold told files
told_files None = (λ name. None, tt)
told_files (Some known) = (known, refl)

-- ---- the first file that can't be had

first_map : (P Q : List ℕ → Type 0) (files : Files) (names : List (List ℕ)) →
    ((name : List ℕ) → P name → Q name) → IsFirst P files names → IsFirst Q files names
first_map P Q files [] f h = h
first_map P Q files (name ∷ names) f h = elim h [
  | inl p ↦ inl (f name p)
  | inr p ↦ inr (p.0, first_map P Q files names f p.1)
]

first_any : (P : List ℕ → Type 0) (files : Files) (names : List (List ℕ)) → IsFirst P files names →
    (name : List ℕ) × P name
first_any P files [] h = absurd h
first_any P files (name ∷ names) h = elim h [
  | inl p ↦ (name, p)
  | inr p ↦ first_any P files names p.1
]

module _ (aim : Aim) (files : Files) (names : List (List ℕ)) where
  -- files of which the first that can't be had comes to this, or which can be had
  pub few_had : (x : Outcome) → FewCome aim files names x
      → IsFirst (λ one. IsUnhad files one x) files names ⊎ FilesCome aim files names x
  few_had outcome.NoJob h = absurd h
  few_had (outcome.Missing name) h = inl h
  few_had (outcome.Passes limit) h = elim h [
    | inl p ↦
        inl (first_map (IsTooLarge files) (λ one. IsUnhad files one (outcome.Passes limit)) files names
        (λ name large. (p.0, large)) p.1)
    | inr p ↦ inr p
  ]
  few_had (outcome.Refused refusal) h = inr h
  few_had outcome.Accepted h = inr h
  few_had (outcome.Explained lives) h = inr h
  few_had (outcome.Laid text) h = inr h
  few_had (outcome.Reported report) h = inr h
  few_had (outcome.Runs program) h = inr h
  few_had (outcome.Compiles program) h = inr h

  pub unhad_few : (x : Outcome) → IsFirst (λ one. IsUnhad files one x) files names → FewCome aim files names x
  unhad_few outcome.NoJob h = absurd (first_any (λ one. IsUnhad files one outcome.NoJob) files names h).1
  unhad_few (outcome.Missing name) h = h
  unhad_few (outcome.Passes limit) h =
      let P : List ℕ → Type 0 = λ one. IsUnhad files one (outcome.Passes limit) in
      inl ((first_any P files names h).1.0, first_map P (IsTooLarge files) files names (λ name p. p.1) h)
  unhad_few (outcome.Refused refusal) h =
      absurd (first_any (λ one. IsUnhad files one (outcome.Refused refusal)) files names h).1
  unhad_few outcome.Accepted h = absurd (first_any (λ one. IsUnhad files one outcome.Accepted) files names h).1
  unhad_few (outcome.Explained lives) h =
      absurd (first_any (λ one. IsUnhad files one (outcome.Explained lives)) files names h).1
  unhad_few (outcome.Laid text) h =
      absurd (first_any (λ one. IsUnhad files one (outcome.Laid text)) files names h).1
  unhad_few (outcome.Reported report) h =
      absurd (first_any (λ one. IsUnhad files one (outcome.Reported report)) files names h).1
  unhad_few (outcome.Runs program) h =
      absurd (first_any (λ one. IsUnhad files one (outcome.Runs program)) files names h).1
  unhad_few (outcome.Compiles program) h =
      absurd (first_any (λ one. IsUnhad files one (outcome.Compiles program)) files names h).1

  -- what files come to that can be had
  pub files_few : (all : List (List ℕ)) (x : Outcome) → AreFiles files names all → BytesCome aim all x
      → is_of_files x ≡ true → FewCome aim files names x
  files_few all outcome.NoJob are h proper = cc
  files_few all (outcome.Missing name) are h proper = cc
  files_few all (outcome.Passes limit) are h proper = inr (all, are, h)
  files_few all (outcome.Refused refusal) are h proper = (all, are, h)
  files_few all outcome.Accepted are h proper = (all, are, h)
  files_few all (outcome.Explained lives) are h proper = (all, are, h)
  files_few all (outcome.Laid text) are h proper = (all, are, h)
  files_few all (outcome.Reported report) are h proper = (all, are, h)
  files_few all (outcome.Runs program) are h proper = (all, are, h)
  files_few all (outcome.Compiles program) are h proper = (all, are, h)

-- a file behind those that can be had
is_first : (P : List ℕ → Type 0) (files : Files) (before all : List (List ℕ)) (name : List ℕ)
    (after : List (List ℕ)) → AreFiles files before all → P name → IsFirst P files (before ++ name ∷ after)
is_first P files [] [] name after are p = inl p
is_first P files [] (bytes ∷ all) name after are p = absurd are
is_first P files (one ∷ before) [] name after are p = absurd are
is_first P files (one ∷ before) (bytes ∷ all) name after are p =
    inr ((bytes, are.0), is_first P files before all name after are.1 p)

-- one more file
are_more : (files : Files) (before all : List (List ℕ)) (name bytes : List ℕ) → AreFiles files before all →
    IsFile files name bytes → AreFiles files (before ++ name ∷ []) (all ++ bytes ∷ [])
are_more files [] [] name bytes are file = (file, tt)
are_more files [] (b ∷ all) name bytes are file = absurd are
are_more files (one ∷ before) [] name bytes are file = absurd are
are_more files (one ∷ before) (b ∷ all) name bytes are file = (are.0, are_more files before all name bytes are.1 file)

pub files_more : (told : Option Files) (before all : List (List ℕ)) (name bytes : List ℕ) →
    AreFilesOf told before all → Extends told before all (λ files. IsFile files name bytes) →
    AreFilesOf told (before ++ name ∷ []) (all ++ bytes ∷ [])
files_more told before all name bytes are more =
    let h = more are.0 are.1 are.2 in
    (h.0, h.1, are_more h.0 before all name bytes h.2 h.3)

pub files_end : (told : Option Files) (before all : List (List ℕ)) (name : List ℕ) (after : List (List ℕ))
    (x : Outcome) → AreFilesOf told before all → Extends told before all (λ files. IsUnhad files name x) →
    FirstUnhad told (before ++ name ∷ after) x
files_end told before all name after x are more =
    let h = more are.0 are.1 are.2 in
    (h.0, h.1, is_first (λ one. IsUnhad h.0 one x) h.0 before all name after h.2 h.3)

-- ---- a name that stands before, and one that doesn't

pub are_as_many : (files : Files) (names all : List (List ℕ)) → AreFiles files names all → length names ≡ length all
are_as_many files [] [] are = refl
are_as_many files [] (bytes ∷ all) are = absurd are
are_as_many files (name ∷ names) [] are = absurd are
are_as_many files (name ∷ names) (bytes ∷ all) are = ap suc (are_as_many files names all are.1)

file_at : (files : Files) (names : List (String Global)) (all : List (Vec ℕ Global)) (i : ℕ)
    (d : String Global) (e : Vec ℕ Global) → AreFiles files (map string_bytes names) (map bytes_in all) →
    i < length names
    → IsFile files (string_bytes (get_or names i d)) (get_or all i e).items
file_at files [] all i d e are h = absurd (omega arith)
file_at files (name ∷ names) [] i d e are h = absurd are
file_at files (name ∷ names) (bytes ∷ all) zero d e are h = are.0
file_at files (name ∷ names) (bytes ∷ all) (suc i) d e are h = file_at files names all i d e are.1 (omega arith)

-- whether a text is this name
abbrev is_name : List ℕ → String Global → Bool
is_name name = λ one. bytes_eq name (string_bytes one)

pub found_before : (told : Option Files) (before : List (String Global)) (all : List (Vec ℕ Global))
    (name bytes : List ℕ) (i : ℕ) (e : Vec ℕ Global) → position (λ one. bytes_eq name (string_bytes one)) before
    ≡ Some i → bytes ≡ (get_or all i e).items
    → Extends told (map string_bytes before) (map bytes_in all) (λ files. IsFile files name bytes)
found_before told [] all name bytes i e is same = λ files known are. cc
found_before told (first ∷ before) all name bytes i e is same = λ files known are.
    let at = position-Some (is_name name) (first ∷ before) i first is in
    let named : name ≡ string_bytes (get_or (first ∷ before) i first) =
    bytes_same name (string_bytes (get_or (first ∷ before) i first)) at.1 in
    let file = file_at files (first ∷ before) all i first e are at.0 in (
      files,
      known,
      are,
      subst (λ n. IsFile files n bytes) (sym named)
          (subst (λ b. IsFile files (string_bytes (get_or (first ∷ before) i first)) b) (sym same) file),
    )

none_before : (p : String Global → Bool) (names : List (String Global)) → position p names ≡ None →
    All (λ one. p one ≡ false) names
none_before p names none = λ k d h. past k d h (cases_lt (position_or_len p names) (length names))
  where
    past : (k : ℕ) (d : String Global) → k < length names → (position_or_len p names < length names)
        ⊎ (length names ≤ position_or_len p names) → p (get_or names k d) ≡ false
    past k d h (inl less) =
        let found : position p names ≡ Some (position_or_len p names) =
        ap (λ b. cond b (Some (position_or_len p names)) None)
        (lt-ltb (position_or_len p names) (length names) less) in
        let e : Some (position_or_len p names) ≡ None = sym found ∙ none in
        cc
    past k d h (inr more) = let low : k < position_or_len p names = omega arith in fails_before_first p names k d low

-- files with what was found under one name
put : Files → List ℕ → Option (List ℕ) → Files
put files name found = λ one. cond (bytes_eq name one) found (files one)

put_same : (files : Files) (name : List ℕ) (found : Option (List ℕ)) → put files name found name ≡ found
unfolding put
put_same files name found = ap (λ b. cond b found (files name)) (bytes_self name)

put_kept : (files : Files) (name : List ℕ) (found : Option (List ℕ)) (before : List (String Global))
    (all : List (Vec ℕ Global)) → All (λ one. is_name name one ≡ false) before →
    AreFiles files (map string_bytes before) (map bytes_in all)
    → AreFiles (put files name found) (map string_bytes before) (map bytes_in all)
unfolding put
put_kept files name found [] [] none are = tt
put_kept files name found [] (bytes ∷ all) none are = absurd are
put_kept files name found (one ∷ before) [] none are = absurd are
put_kept files name found (one ∷ before) (bytes ∷ all) none are =
    let first : is_name name one ≡ false = none 0 one (omega arith) in
    let rest : All (λ other. is_name name other ≡ false) before = λ k d h. none (suc k) d (omega arith) in (
      (ap (λ b. cond b found (files (string_bytes one))) first ∙ are.0.0, are.0.1),
      put_kept files name found before all rest are.1,
    )

pub found_new : (told : Option Files) (before : List (String Global)) (all : List (Vec ℕ Global))
    (name : List ℕ) (Q : Files → Type 0) → position (λ one. bytes_eq name (string_bytes one)) before ≡ None →
    Tells told name Q
    → Extends told (map string_bytes before) (map bytes_in all) Q
found_new None before all name Q new tells = λ files known are. (
  put files name tells.0,
  tt,
  put_kept files name tells.0 before all
      (none_before (is_name name) before new) are,
  tells.2 (put files name tells.0) (put_same files name tells.0),
)
found_new (Some known) before all name Q new tells = λ files same are.
    (files, same, are, tells.2 files (ap (λ (f : Files). f name) same ∙ tells.1))

-- ---- what the shelf says of one file

pub tells_whole : (told : Option Files) (name bytes : List ℕ) →
    IfSome told (λ known. known name ≡ Some bytes) → length bytes ≤ most_file_bytes →
    Tells told name (λ files. IsFile files name bytes)
tells_whole told name bytes known small = (Some bytes, known, λ files is. (is, small))

pub tells_missing : (told : Option Files) (name copied : List ℕ) → IfSome told (λ known. known name ≡ None) →
    copied ≡ name → Tells told name (λ files. IsUnhad files name (outcome.Missing copied))
tells_missing told name copied known same = (None, known, λ files is. (sym same, is))

pub tells_large : (told : Option Files) (name room : List ℕ) →
    IfSome told (λ known. (rest : List ℕ) × (known name ≡ Some (room ++ rest))) →
    length room ≡ most_file_bytes + 1 →
    Tells told name (λ files. IsUnhad files name (outcome.Passes file_limit))
tells_large None name room known large = (Some room, tt, λ files is. (refl, (room, is, omega arith)))
tells_large (Some files) name room known large = (
  Some (room ++ known.0),
  known.1,
  λ files is. (refl, (room ++ known.0, is, omega (arith, length-append room known.0))),
)

-- ---- the files of names in the code

-- none of the files that can be had is too large
small_at : (files : Files) (names : List (List ℕ)) (all : List (Vec ℕ Global)) (k : ℕ) (d : Vec ℕ Global) →
    AreFiles files names (map bytes_in all) → k < length all → length (get_or all k d).items ≤ most_file_bytes
small_at files names [] k d are h = absurd (omega arith)
small_at files [] (bytes ∷ all) k d are h = absurd are
small_at files (name ∷ names) (bytes ∷ all) zero d are h = are.0.1
small_at files (name ∷ names) (bytes ∷ all) (suc k) d are h = small_at files names all k d are.1 (omega arith)

pub are_small : (files : Files) (names : List (List ℕ)) (all : List (Vec ℕ Global)) →
    AreFiles files names (map bytes_in all) →
    All (λ (bytes : Vec ℕ Global). length bytes.items ≤ most_file_bytes) all
are_small files names all are = λ k d h. small_at files names all k d are h

-- the names before an index and the one there
names_to : (names : List (String Global)) (i : ℕ) (name : String Global) → i < length names →
    name ≡ get_or names i name → map string_bytes (take (i + 1) names) ≡ map string_bytes (take i names)
    ++ string_bytes name ∷ []
names_to names i name h is =
    ap (map string_bytes) (take_more names i name h) ∙ map-append string_bytes (take i names) (get_or names i name ∷ [])
    ∙ ap (λ (n : String Global). map string_bytes (take i names) ++ string_bytes n ∷ []) (sym is)

-- the names before an index, the one there, and those behind it
names_at : (names : List (String Global)) (i : ℕ) (name : String Global) → i < length names →
    name ≡ get_or names i name → map string_bytes names ≡ map string_bytes (take i names)
    ++ string_bytes name ∷ map string_bytes (drop (i + 1) names)
names_at names i name h is =
    ap (map string_bytes) (sym (take-append-drop i names)) ∙ map-append string_bytes (take i names) (drop i names)
    ∙ ap (λ l. map string_bytes (take i names) ++ map string_bytes l) (drop_more names i name h)
    ∙ ap (λ (n : String Global). map string_bytes (take i names) ++ string_bytes n ∷ map string_bytes
    (drop (i + 1) names)) (sym is)

-- what is said of the files before an index, in other words for them
extends_same : (told given : Option Files) (names before : List (String Global))
    (all had : List (Vec ℕ Global)) (Q R : Files → Type 0) → given ≡ told → before ≡ names → had ≡ all → Q ≡ R
    → Extends given (map string_bytes before) (map bytes_in had) Q → Extends told (map string_bytes names)
    (map bytes_in all) R
extends_same told given names before all had Q R shelf list bytes same h =
    subst (λ t. Extends t (map string_bytes names) (map bytes_in all) R) shelf
    (subst (λ (l : List (String Global)). Extends given (map string_bytes l) (map bytes_in all) R) list
    (subst (λ (l : List (Vec ℕ Global)). Extends given (map string_bytes before) (map bytes_in l) R) bytes
    (subst (λ P. Extends given (map string_bytes before) (map bytes_in had) P) same h)))

-- one more file is fetched
pub fetched_more : (told given : Option Files) (names before : List (String Global)) (i : ℕ)
    (name : String Global) (text : List ℕ) (all had more : List (Vec ℕ Global)) (bytes : Vec ℕ Global) →
    given ≡ told → i < length names → name ≡ get_or names i name → before ≡ take i names → had ≡ all →
    text ≡ string_bytes name → more ≡ all ++ bytes ∷ [] →
    AreFilesOf told (map string_bytes (take i names)) (map bytes_in all) →
    Extends given (map string_bytes before) (map bytes_in had) (λ files. IsFile files text bytes.items) →
    AreFilesOf told (map string_bytes (take (i + 1) names)) (map bytes_in more)
fetched_more told given names before i name text all had more bytes shelf h is list same spelled pushed are next =
    let e = extends_same told given (take i names) before all had (λ files. IsFile files text bytes.items)
    (λ files. IsFile files (string_bytes name) bytes.items) shelf list same
    (ap (λ t files. IsFile files t bytes.items) spelled) next in
    let both = files_more told (map string_bytes (take i names)) (map bytes_in all) (string_bytes name)
    bytes.items are e in
    let items : map bytes_in more ≡ map bytes_in all ++ bytes.items ∷ [] = ap (map bytes_in) pushed
    ∙ map-append bytes_in all (bytes ∷ []) in
    subst (λ ns. AreFilesOf told ns (map bytes_in more)) (sym (names_to names i name h is))
    (subst (λ l. AreFilesOf told (map string_bytes (take i names) ++ string_bytes name ∷ []) l) (sym items) both)

-- a file can't be had
pub fetched_end : (told given : Option Files) (names before : List (String Global)) (i : ℕ)
    (name : String Global) (text : List ℕ) (all had : List (Vec ℕ Global)) (x : Outcome) →
    given ≡ told → i < length names → name ≡ get_or names i name → before ≡ take i names → had ≡ all →
    text ≡ string_bytes name →
    AreFilesOf told (map string_bytes (take i names)) (map bytes_in all) →
    Extends given (map string_bytes before) (map bytes_in had) (λ files. IsUnhad files text x) →
    FirstUnhad told (map string_bytes names) x
fetched_end told given names before i name text all had x shelf h is list same spelled are next =
    let e = extends_same told given (take i names) before all had (λ files. IsUnhad files text x)
    (λ files. IsUnhad files (string_bytes name) x) shelf list same
    (ap (λ t files. IsUnhad files t x) spelled) next in
    subst (λ ns. FirstUnhad told ns x) (sym (names_at names i name h is))
    (files_end told (map string_bytes (take i names)) (map bytes_in all) (string_bytes name)
    (map string_bytes (drop (i + 1) names)) x are e)

-- a file behind others that can be had, where the shelf failed
pub fetched_stop : (told : Option Files) (names : List (String Global)) (i : ℕ) (name : String Global)
    (all : List (Vec ℕ Global)) → length names ≤ most_files → i < length names → name ≡ get_or names i name →
    AreFilesOf told (map string_bytes (take i names)) (map bytes_in all) → StopsIn told (map string_bytes names)
fetched_stop told names i name all few h is are =
    let same = length-map names string_bytes in (
      omega (arith, few),
      map string_bytes (take i names),
      string_bytes name,
      map string_bytes (drop (i + 1) names),
      names_at names i name h is,
      map bytes_in all,
      are,
    )

-- nothing is fetched yet
pub none_fetched : (told : Option Files) → AreFilesOf told [] []
none_fetched told = let h = told_files told in (h.0, h.1, tt)

-- as many are fetched as there are names
pub fetched_length : (told : Option Files) (names : List (String Global)) (all : List (Vec ℕ Global)) →
    AreFilesOf told (map string_bytes names) (map bytes_in all) → length names ≡ length all
fetched_length told names all are =
    sym (length-map names string_bytes) ∙ are_as_many are.0 (map string_bytes names) (map bytes_in all) are.2
    ∙ length-map all bytes_in
