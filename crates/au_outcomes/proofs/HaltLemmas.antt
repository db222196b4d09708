-- A file halts with one thing, or it is read as one thing, and not both.
use Rattle.std.proofs.Common.{◌≡◌, ℕ, zero, suc, ◌+◌, ◌-◌, Err, Bool, true, false, List, [], ◌∷◌, length}
use Rattle.std.proofs.Common.{Some, ap, ◌∙◌, sym, refl, subst, arith, ◌⊎◌, inl, inr, slice_get}
use Rattle.au_base.specs.declared.limits.Limit.{Limit}
use Rattle.au_base.specs.declared.places.Pos.{Pos}
use Rattle.au_base.specs.declared.tokens.Token.{Token}
use Rattle.au_base.specs.Places.{place_after}
use Rattle.au_parser.specs.Fronts.{IsFaultPlace}
use Rattle.au_parser.specs.Passing.{PassesNone}
use Rattle.au_parser.proofs.Places.{place_told}
use Rattle.au_parser.proofs.Certain.{passed_told}
use Rattle.au_lexer.specs.Cut.{Cut, Lexed, tokens, stray, passes, Lexes}
use Rattle.au_lexer.specs.Passing.{IsWithinLimits}
use Rattle.au_lexer.proofs.UniqueLemmas.{one_cut, one_outcome}
use Rattle.au_parser.proofs.Keeping.{fits_none}
use Rattle.au_parser.proofs.ReaderLaws.{one_tree}
use Rattle.au_parser.specs.ModuleReading.{file_at}
use Rattle.au_read_expressions.specs.Bounds.{usual}
use Rattle.au_read_expressions.specs.Reading.{Read}
use Rattle.au_read_expressions.specs.declared.faults.Fault.{Fault}
use Rattle.au_read_expressions.specs.declared.faults.Fault.TheVariants as reading
use Rattle.au_syntax.specs.Plain.{PlainModule}
use Rattle.au_syntax.specs.Words.{Spells}
use Rattle.au_outcomes.specs.Halts.{is_missing}
use Rattle.au_outcomes.specs.Reading.{TokensHalt}
use Rattle.au_accepted.specs.Trees.{AreRead, HasTree, IsRead, ReadFile}
use Rattle.au_outcomes.specs.Trees.{FirstHalts, Halts, HasNoTree, HasTokens, place_or}
use Rattle.au_outcomes.specs.declared.outcomes.Outcome.{Outcome}
use Rattle.au_outcomes.specs.declared.outcomes.Outcome.TheVariants as outcome
use Rattle.au_outcomes.specs.Refusals.{is_refusal}
use Rattle.au_outcomes.specs.declared.refusals.Refusal.{Refusal}
use Rattle.au_outcomes.specs.declared.refusals.Refusal.TheVariants.{Byte, Syntax}

-- what a file halts with, by what its bytes are cut into
abbrev Shape : ℕ → List ℕ → Lexed → Outcome → Type 0
Shape file bytes (tokens list) arisen = TokensHalt list (place_after file bytes) arisen
Shape file bytes (stray at) arisen = arisen ≡ outcome.Refused (Byte at)
Shape file bytes (passes limit) arisen = arisen ≡ outcome.Passes limit

shape : (file : ℕ) (bytes : List ℕ) (arisen : Outcome) → Halts file bytes arisen → (lexed : Lexed)
    × Lexes file bytes lexed × Shape file bytes lexed arisen
shape file bytes (outcome.Passes limit) h = elim h [
  | inl lexed ↦ (passes limit, lexed, refl)
  | inr read ↦ (tokens read.0, (read.1, read.2), read.3)
]
shape file bytes (outcome.Refused (Byte at)) h = (stray at, h, refl)
shape file bytes (outcome.Refused (Syntax at)) h = (tokens h.0, (h.1, h.2), h.3)
shape file bytes other h = absurd h

-- what tokens halt with, a file halts with that is cut into them
pub halts_so : (file : ℕ) (bytes : List ℕ) (list : List Token) (arisen : Outcome) → Cut file bytes list →
    IsWithinLimits list → TokensHalt list (place_after file bytes) arisen → Halts file bytes arisen
halts_so file bytes list (outcome.Passes limit) cut within h = inr (list, cut, within, h)
halts_so file bytes list (outcome.Refused (Syntax at)) cut within h = (list, cut, within, h)
halts_so file bytes list other cut within h = absurd h

-- what the fault of the reader comes to
abbrev fault_outcome : List Token → Pos → Fault → Outcome
fault_outcome list end (reading.Syntax left) = outcome.Refused (Syntax (place_or end list (length list - left)))
fault_outcome list end (reading.Passed limit left) = outcome.Passes limit

-- tokens that have no tree within the limits come to the fault of the reader
abbrev IsFaultOutcome : List Token → Pos → Outcome → Type 0
IsFaultOutcome list end arisen = (HasTree list → ⊥)
    × ((f : Fault) × (file_at usual list ≡ Err f) × (arisen ≡ fault_outcome list end f))

-- where no limit is passed, reading stops at the place of the fault
stops_there : (list : List Token) (place : ℕ) → IsFaultPlace list place → PassesNone usual list →
    file_at usual list ≡ Err (reading.Syntax (length list - place))
stops_there list place p none =
    elim (place_told usual list place p) [ inl e ↦ e | inr w ↦ absurd (none w.0 (w.3.0, w.3.1)) ]

there_again : (list : List Token) (place : ℕ) → IsFaultPlace list place → place ≡ length list - (length list - place)
there_again list place p = let h = p.within in omega (arith, h)

fault_of : (list : List Token) (end : Pos) (arisen : Outcome) → TokensHalt list end arisen →
    IsFaultOutcome list end arisen
fault_of list end (outcome.Passes limit) h = (
  λ tree. fits_none tree.0 limit tree.3 (h.1 tree.0 tree.1 tree.2),
  let told = passed_told usual list h.0.0 limit h.0.1 in (reading.Passed limit told.0, told.1, refl),
)
fault_of list end (outcome.Refused (Syntax at)) h = (
  λ tree. h.0 tree.0 tree.1 tree.2,
  (
    reading.Syntax (length list - h.1.0),
    stops_there list h.1.0 h.1.1 h.1.2,
    ap (λ p. outcome.Refused (Syntax p)) (h.1.3 ∙ ap (place_or end list) (there_again list h.1.0 h.1.1)),
  ),
)
fault_of list end other h = absurd h

-- the reader has one fault
one_fault : (read : Read PlainModule) (f g : Fault) → read ≡ Err f → read ≡ Err g → f ≡ g
one_fault read f g x y = let e : ◌≡◌ {A = Read PlainModule} (Err f) (Err g) = sym x ∙ y in cc

-- tokens halt with one thing
tokens_same : (list : List Token) (end : Pos) (x y : Outcome) → TokensHalt list end x → TokensHalt list end y → x ≡ y
tokens_same list end x y a b =
    let p = (fault_of list end x a).1 in
    let q = (fault_of list end y b).1 in
    p.2 ∙ ap (fault_outcome list end) (one_fault (file_at usual list) p.0 q.0 p.1 q.1) ∙ sym q.2

shape_same : (file : ℕ) (bytes : List ℕ) (lexed : Lexed) (x y : Outcome) → Shape file bytes lexed x →
    Shape file bytes lexed y → x ≡ y
shape_same file bytes (tokens list) x y a b = tokens_same list (place_after file bytes) x y a b
shape_same file bytes (stray at) x y a b = a ∙ sym b
shape_same file bytes (passes limit) x y a b = a ∙ sym b

-- a file halts with one thing
pub halts_same : (file : ℕ) (bytes : List ℕ) (x y : Outcome) → Halts file bytes x → Halts file bytes y → x ≡ y
halts_same file bytes x y a b =
    let p = shape file bytes x a in
    let q = shape file bytes y b in
    shape_same file bytes p.0 x y p.2 (subst (λ l. Shape file bytes l y) (one_outcome file bytes q.0 p.0 q.1 p.1) q.2)

-- what is known of a file that was read: its tokens have a tree
has_tree : (file : ℕ) (bytes : List ℕ) (one : ReadFile) → IsRead file bytes one → HasTree one.tokens
has_tree file bytes one read = (one.tree, read.formed, read.spelled, read.fits)

-- a file that was read doesn't halt
pub halts_or_read : (file : ℕ) (bytes : List ℕ) (x : Outcome) (one : ReadFile) → Halts file bytes x →
    IsRead file bytes one → ⊥
halts_or_read file bytes x one h read =
    let p = shape file bytes x h in
    let q : Shape file bytes (tokens one.tokens) x =
    subst (λ l. Shape file bytes l x)
    (one_outcome file bytes p.0 (tokens one.tokens) p.1 (read.cut, read.within)) p.2 in
    (fault_of one.tokens (place_after file bytes) x q).0 (has_tree file bytes one read)

same_parts : (a b : ReadFile) → a.tokens ≡ b.tokens → a.end ≡ b.end → a.tree ≡ b.tree → a ≡ b
same_parts a b list end tree =
    let first : a ≡ record { tokens = b.tokens; end = a.end; tree = a.tree } =
    ap (λ t. record { tokens = t; end = a.end; tree = a.tree }) list in
    let second : ◌≡◌ {A = ReadFile} (record { tokens = b.tokens; end = a.end; tree = a.tree })
    (record { tokens = b.tokens; end = b.end; tree = a.tree }) =
    ap (λ e. record { tokens = b.tokens; end = e; tree = a.tree }) end in
    let third : record { tokens = b.tokens; end = b.end; tree = a.tree } ≡ b =
    ap (λ m. record { tokens = b.tokens; end = b.end; tree = m }) tree in
    first ∙ second ∙ third

-- a file is read as one thing
pub read_same : (file : ℕ) (bytes : List ℕ) (a b : ReadFile) → IsRead file bytes a → IsRead file bytes b → a ≡ b
read_same file bytes a b x y =
    let list = one_cut file bytes a.tokens b.tokens x.cut y.cut in
    same_parts a b list (x.end ∙ sym y.end)
    (one_tree a.tree b.tree x.formed y.formed b.tokens (subst (λ ts. Spells a.tree ts) list x.spelled) y.spelled)

-- a file of which the tokens have no tree isn't read
pub treeless : (file : ℕ) (bytes : List ℕ) (one : ReadFile) → HasTokens file bytes HasNoTree → IsRead file bytes one → ⊥
treeless file bytes one none read =
    none.3 one.tree read.formed (subst (λ ts. Spells one.tree ts)
    (one_cut file bytes one.tokens none.0 read.cut none.1) read.spelled)

-- files in order are read as one thing
pub are_read_same : (file : ℕ) (all : List (List ℕ)) (rs qs : List ReadFile) → AreRead file all rs →
    AreRead file all qs → rs ≡ qs
are_read_same file [] [] [] a b = refl
are_read_same file [] (r ∷ rs) qs a b = absurd a
are_read_same file [] [] (q ∷ qs) a b = absurd b
are_read_same file (bytes ∷ all) [] qs a b = absurd a
are_read_same file (bytes ∷ all) (r ∷ rs) [] a b = absurd b
are_read_same file (bytes ∷ all) (r ∷ rs) (q ∷ qs) a b =
    let first = read_same file bytes r q a.0 b.0 in
    let rest = are_read_same (file + 1) all rs qs a.1 b.1 in
    ap (λ one. one ∷ rs) first ∙ ap (λ l. q ∷ l) rest

-- files in order halt with one thing
pub first_halts_same : (file : ℕ) (all : List (List ℕ)) (x y : Outcome) → FirstHalts file all x →
    FirstHalts file all y → x ≡ y
first_halts_same file [] x y a b = absurd a
first_halts_same file (bytes ∷ all) x y a b = elim a [
  | inl p ↦ elim b [
    | inl q ↦ halts_same file bytes x y p q
    | inr q ↦ absurd (halts_or_read file bytes x q.0.0 p q.0.1)
  ]
  | inr p ↦ elim b [
    | inl q ↦ absurd (halts_or_read file bytes y p.0.0 q p.0.1)
    | inr q ↦ first_halts_same (file + 1) all x y p.1 q.1
  ]
]

-- files that were read don't halt
pub first_halts_or_read : (file : ℕ) (all : List (List ℕ)) (x : Outcome) (rs : List ReadFile) →
    FirstHalts file all x → AreRead file all rs → ⊥
first_halts_or_read file [] x rs a b = absurd a
first_halts_or_read file (bytes ∷ all) x [] a b = absurd b
first_halts_or_read file (bytes ∷ all) x (r ∷ rs) a b = elim a [
  | inl p ↦ halts_or_read file bytes x r p b.0
  | inr p ↦ first_halts_or_read (file + 1) all x rs p.1 b.1
]

-- a file among those that were read
pub read_at : (file : ℕ) (all : List (List ℕ)) (rs : List ReadFile) (i : ℕ) (bytes : List ℕ) →
    AreRead file all rs → slice_get all i ≡ Some bytes → (one : ReadFile) × IsRead (file + i) bytes one
read_at file [] rs i bytes a is = cc
read_at file (first ∷ all) [] i bytes a is = absurd a
read_at file (first ∷ all) (r ∷ rs) zero bytes a is =
    let same : first ≡ bytes = cc in
    let number : file ≡ file + 0 = omega arith in
    (r, subst (λ f. IsRead f bytes r) number (subst (λ b. IsRead file b r) same a.0))
read_at file (first ∷ all) (r ∷ rs) (suc i) bytes a is =
    let h = read_at (file + 1) all rs i bytes a.1 is in
    let number : file + 1 + i ≡ file + suc i = omega arith in
    (h.0, subst (λ f. IsRead f bytes h.0) number h.1)

-- A refusal, or a limit that is passed.
abbrev pub IsHalt : Outcome → Type 0
IsHalt x = ((refusal : Refusal) × (x ≡ outcome.Refused refusal)) ⊎ ((limit : Limit) × (x ≡ outcome.Passes limit))

-- what files halt with is a refusal or a limit, and no missing file
is_halt : (file : ℕ) (bytes : List ℕ) (x : Outcome) → Halts file bytes x → IsHalt x
is_halt file bytes (outcome.Passes limit) h = inr (limit, refl)
is_halt file bytes (outcome.Refused refusal) h = inl (refusal, refl)
is_halt file bytes outcome.NoJob h = absurd h
is_halt file bytes (outcome.Missing name) h = absurd h
is_halt file bytes outcome.Accepted h = absurd h
is_halt file bytes (outcome.Explained lives) h = absurd h
is_halt file bytes (outcome.Laid text) h = absurd h
is_halt file bytes (outcome.Reported report) h = absurd h
is_halt file bytes (outcome.Runs program) h = absurd h
is_halt file bytes (outcome.Compiles program) h = absurd h

pub first_halt : (file : ℕ) (all : List (List ℕ)) (x : Outcome) → FirstHalts file all x → IsHalt x
first_halt file [] x h = absurd h
first_halt file (bytes ∷ all) x h = elim h [
  | inl p ↦ is_halt file bytes x p
  | inr p ↦ first_halt (file + 1) all x p.1
]

-- an outcome that comes from the bytes of files, with a refusal that is one
abbrev pub is_of_files : Outcome → Bool
is_of_files outcome.NoJob = false
is_of_files (outcome.Missing name) = false
is_of_files (outcome.Passes limit) = true
is_of_files (outcome.Refused refusal) = is_refusal refusal
is_of_files outcome.Accepted = true
is_of_files (outcome.Explained lives) = true
is_of_files (outcome.Laid text) = true
is_of_files (outcome.Reported report) = true
is_of_files (outcome.Runs program) = true
is_of_files (outcome.Compiles program) = true

pub not_missing : (x : Outcome) → is_of_files x ≡ true → is_missing x ≡ false
not_missing outcome.NoJob h = refl
not_missing (outcome.Missing name) h = cc
not_missing (outcome.Passes limit) h = refl
not_missing (outcome.Refused refusal) h = refl
not_missing outcome.Accepted h = refl
not_missing (outcome.Explained lives) h = refl
not_missing (outcome.Laid text) h = refl
not_missing (outcome.Reported report) h = refl
not_missing (outcome.Runs program) h = refl
not_missing (outcome.Compiles program) h = refl

halt_found : (file : ℕ) (bytes : List ℕ) (x : Outcome) → Halts file bytes x → is_of_files x ≡ true
halt_found file bytes (outcome.Passes limit) h = refl
halt_found file bytes (outcome.Refused (Byte at)) h = refl
halt_found file bytes (outcome.Refused (Syntax at)) h = refl
halt_found file bytes other h = absurd h

pub first_found : (file : ℕ) (all : List (List ℕ)) (x : Outcome) → FirstHalts file all x → is_of_files x ≡ true
first_found file [] x h = absurd h
first_found file (bytes ∷ all) x h = elim h [
  | inl p ↦ halt_found file bytes x p
  | inr p ↦ first_found (file + 1) all x p.1
]
