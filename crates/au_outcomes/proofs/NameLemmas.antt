-- The files of names come to one thing.
use Rattle.std.proofs.Common.{◌≡◌, ℕ, true, ◌<◌, ◌≤◌, List, [], ◌∷◌, length, Some, None, ap, ◌∙◌, sym, refl}
use Rattle.std.proofs.Common.{subst, arith, ◌⊎◌, inl, inr}
use Rattle.au_base.specs.Limits.{most_file_bytes}
use Rattle.au_base.specs.Outside.{Files}
use Rattle.au_outcomes.specs.Halts.{IsUnhad}
use Rattle.au_accepted.specs.Files.{AreFiles, IsFile, most_files}
use Rattle.au_outcomes.specs.Outcomes.{BytesCome, Comes, FewCome, IsFirst, file_limit, is_outcome}
use Rattle.au_outcomes.specs.Programs.{AreOne}
use Rattle.au_outcomes.specs.declared.outcomes.Aim.{Aim}
use Rattle.au_outcomes.specs.declared.outcomes.Outcome.{Outcome}
use Rattle.au_outcomes.specs.declared.outcomes.Outcome.TheVariants as outcome
use Rattle.au_outcomes.proofs.FetchLemmas.{few_had}
use Rattle.au_outcomes.proofs.BytesLemmas.{are_one, bytes_found, bytes_same}

-- the file of a name is one
one_bytes : (files : Files) (name a b : List ℕ) → files name ≡ Some a → files name ≡ Some b → a ≡ b
one_bytes files name a b x y = let e : Some a ≡ Some b = sym x ∙ y in cc

no_bytes : (files : Files) (name a : List ℕ) → files name ≡ None → files name ≡ Some a → ⊥
no_bytes files name a x y = let e : None ≡ Some a = sym x ∙ y in cc

too_small : (files : Files) (name a b : List ℕ) → files name ≡ Some a → files name ≡ Some b →
    most_file_bytes < length a → length b ≤ most_file_bytes → ⊥
too_small files name a b x y large small = let same = ap length (one_bytes files name a b x y) in omega arith

-- a file that can't be had isn't there, or is too large
unhad_shape : (files : Files) (name : List ℕ) (x : Outcome) → IsUnhad files name x
    → ((files name ≡ None) × (x ≡ outcome.Missing name))
    ⊎ ((bytes : List ℕ) × (files name ≡ Some bytes) × (most_file_bytes < length bytes)
    × (x ≡ outcome.Passes file_limit))
unhad_shape files name (outcome.Missing other) h = inl (h.1, ap (λ n. outcome.Missing n) (sym h.0))
unhad_shape files name (outcome.Passes limit) h = inr (h.1.0, h.1.1, h.1.2, ap (λ l. outcome.Passes l) h.0)
unhad_shape files name other h = absurd h

unhad_same : (files : Files) (name : List ℕ) (x y : Outcome) → IsUnhad files name x → IsUnhad files name y → x ≡ y
unhad_same files name x y a b = elim (unhad_shape files name x a) [
  | inl p ↦ elim (unhad_shape files name y b) [
    | inl q ↦ p.1 ∙ sym q.1
    | inr q ↦ absurd (no_bytes files name q.0 p.0 q.1)
  ]
  | inr p ↦ elim (unhad_shape files name y b) [
    | inl q ↦ absurd (no_bytes files name p.0 q.0 p.1)
    | inr q ↦ p.3 ∙ sym q.3
  ]
]

unhad_or_file : (files : Files) (name bytes : List ℕ) (x : Outcome) → IsUnhad files name x → IsFile files name bytes → ⊥
unhad_or_file files name bytes x a file = elim (unhad_shape files name x a) [
  | inl p ↦ no_bytes files name bytes p.0 file.0
  | inr p ↦ too_small files name p.0 bytes p.1 file.0 p.2 file.1
]

-- the first that can't be had is one
first_same : (files : Files) (names : List (List ℕ)) (x y : Outcome) → IsFirst (λ one. IsUnhad files one x)
    files names → IsFirst (λ one. IsUnhad files one y) files names → x ≡ y
first_same files [] x y a b = absurd a
first_same files (name ∷ names) x y a b = elim a [
  | inl p ↦ elim b [
    | inl q ↦ unhad_same files name x y p q
    | inr q ↦ absurd (unhad_or_file files name q.0.0 x p q.0.1)
  ]
  | inr p ↦ elim b [
    | inl q ↦ absurd (unhad_or_file files name p.0.0 y q p.0.1)
    | inr q ↦ first_same files names x y p.1 q.1
  ]
]

pub first_or_files : (files : Files) (names all : List (List ℕ)) (x : Outcome) →
    IsFirst (λ one. IsUnhad files one x) files names → AreFiles files names all → ⊥
first_or_files files [] all x a are = absurd a
first_or_files files (name ∷ names) [] x a are = absurd are
first_or_files files (name ∷ names) (bytes ∷ all) x a are = elim a [
  | inl p ↦ unhad_or_file files name bytes x p are.0
  | inr p ↦ first_or_files files names all x p.1 are.1
]

-- the files of names have one content
pub files_same : (files : Files) (names xs ys : List (List ℕ)) → AreFiles files names xs →
    AreFiles files names ys → xs ≡ ys
files_same files [] [] [] x y = refl
files_same files [] (a ∷ xs) ys x y = absurd x
files_same files [] [] (b ∷ ys) x y = absurd y
files_same files (name ∷ names) [] ys x y = absurd x
files_same files (name ∷ names) (a ∷ xs) [] x y = absurd y
files_same files (name ∷ names) (a ∷ xs) (b ∷ ys) x y =
    ap (λ one. one ∷ xs) (one_bytes files name a b x.0.0 y.0.0) ∙ ap (λ l. b ∷ l) (files_same files names xs ys x.1 y.1)

few_same : (aim : Aim) (files : Files) (names : List (List ℕ)) (x y : Outcome) → FewCome aim files names x
    → FewCome aim files names y → AreOne x y
few_same aim files names x y a b = elim (few_had aim files names x a) [
  | inl p ↦ elim (few_had aim files names y b) [
    | inl q ↦ are_one x y (first_same files names x y p q)
    | inr q ↦ absurd (first_or_files files names q.0 x p q.1)
  ]
  | inr p ↦ elim (few_had aim files names y b) [
    | inl q ↦ absurd (first_or_files files names p.0 y q p.1)
    | inr q ↦
        bytes_same aim p.0 x y p.2
        (subst (λ all. BytesCome aim all y) (files_same files names q.0 p.0 q.1 p.1) q.2)
  ]
]

-- files are not both too many and few enough
pub many_or_few : (count : ℕ) → most_files < count → count ≤ most_files → ⊥
many_or_few count many few = omega arith

-- the files of names come to one thing
pub comes_same : (aim : Aim) (files : Files) (names : List (List ℕ)) (x y : Outcome) → Comes aim files names x
    → Comes aim files names y → AreOne x y
comes_same aim files names x y a b = elim a [
  | inl p ↦ elim b [
    | inl q ↦ are_one x y (p.1 ∙ sym q.1)
    | inr q ↦ absurd (many_or_few (length names) p.0 q.0)
  ]
  | inr p ↦ elim b [
    | inl q ↦ absurd (many_or_few (length names) q.0 p.0)
    | inr q ↦ few_same aim files names x y p.1 q.1
  ]
]

-- what the files of names come to is an outcome
few_outcome : (aim : Aim) (files : Files) (names : List (List ℕ)) (x : Outcome) → FewCome aim files names x
    → is_outcome x ≡ true
few_outcome aim files names outcome.NoJob h = refl
few_outcome aim files names (outcome.Missing name) h = refl
few_outcome aim files names (outcome.Passes limit) h = refl
few_outcome aim files names (outcome.Refused refusal) h = bytes_found aim h.0 (outcome.Refused refusal) h.2
few_outcome aim files names outcome.Accepted h = refl
few_outcome aim files names (outcome.Explained lives) h = refl
few_outcome aim files names (outcome.Laid text) h = refl
few_outcome aim files names (outcome.Reported report) h = refl
few_outcome aim files names (outcome.Runs program) h = refl
few_outcome aim files names (outcome.Compiles program) h = refl

pub comes_outcome : (aim : Aim) (files : Files) (names : List (List ℕ)) (x : Outcome) → Comes aim files names x
    → is_outcome x ≡ true
comes_outcome aim files names x h = elim h [
  | inl p ↦ ap is_outcome p.1
  | inr p ↦ few_outcome aim files names x p.1
]
