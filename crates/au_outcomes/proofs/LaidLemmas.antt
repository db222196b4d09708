-- Files that are laid out.
use Rattle.std.proofs.Common.{◌≡◌, ℕ, ◌+◌, ◌<◌, ◌≤◌, List, [], ◌∷◌, ◌++◌, length, get_or, drop, map, Vec, ap, ◌∙◌}
use Rattle.std.proofs.Common.{true, false, Some}
use Rattle.std.proofs.Common.{sym, refl, subst, inl, inr, append_assoc}
use Rattle.std.specs.Global.{Global}
use Rattle.std.proofs.lemmas.List.{append-nil, drop_all}
use Rattle.au_base.specs.Outside.{Files}
use Rattle.au_base.specs.declared.tokens.Token.{Token}
use Rattle.au_base.specs.Places.{place_after}
use Rattle.au_lexer.specs.Cut.{Cut}
use Rattle.au_lexer.specs.Passing.{IsWithinLimits}
use Rattle.au_outcomes.specs.Halts.{bytes_in}
use Rattle.au_outcomes.specs.Layouts.{AreLaid, AreLaidOut, IsLaidOut}
use Rattle.au_outcomes.specs.Outcomes.{AskedCome, BytesCome, Comes, HasLayout, files_limit}
use Rattle.au_modules.specs.Programs.{Entry}
use Rattle.au_accepted.specs.Programs.{program_files}
use Rattle.au_outcomes.specs.Programs.{AcceptedCome, ReadsCome, program_outcome, read_lives}
use Rattle.au_accepted.specs.Trees.{HasTree, IsRead, ReadFile}
use Rattle.au_outcomes.specs.Trees.{FirstHalts}
use Rattle.au_outcomes.specs.declared.outcomes.Aim.{Aim}
use Rattle.au_outcomes.specs.declared.outcomes.Aim.TheVariants as aims
use Rattle.au_outcomes.specs.declared.outcomes.Outcome.{Outcome}
use Rattle.au_outcomes.specs.declared.outcomes.Outcome.TheVariants as outcome
use Rattle.au_outcomes.proofs.AcceptedLemmas.{judged_before}
use Rattle.au_outcomes.proofs.KeptLemmas.{HaltOn, bytes_at}

-- what comes of the files from an index on, behind the layouts of those before, comes of all
abbrev pub LayOn : List (Vec ℕ Global) → ℕ → List ℕ → Type 0
LayOn all i text =
    (rest : List ℕ) → AreLaidOut i (map bytes_in (drop i all)) rest
    → AreLaidOut 0 (map bytes_in all) (text ++ rest)

-- one file more is laid out
laid_one : (file : ℕ) (bytes : List ℕ) (all : List (List ℕ)) (one rest : List ℕ) → IsLaidOut file bytes one
    → AreLaidOut (file + 1) all rest → AreLaidOut file (bytes ∷ all) (one ++ rest)
laid_one file bytes all one rest first behind = (
  (first.0.0 ∷ behind.0.0, (first.0.1, behind.0.1)),
  (one, rest, first.1, behind.1, refl),
)

module _
    (all : List (Vec ℕ Global)) (i : ℕ) (bytes : Vec ℕ Global) (slice : List ℕ)
    (h : i < length all) (is : bytes ≡ get_or all i bytes) (same : slice ≡ bytes.items)
  where
    pub laid_more : (one text more : List ℕ) → more ≡ text ++ one → IsLaidOut i slice one → LayOn all i text
        → LayOn all (i + 1) more
    laid_more one text more added laid before = λ rest behind.
        let next = laid_one i bytes.items (map bytes_in (drop (i + 1) all)) one rest
        (subst (λ b. IsLaidOut i b one) same laid) behind in
        let whole = before (one ++ rest)
        (subst (λ l. AreLaidOut i l (one ++ rest)) (sym (bytes_at all i bytes h is)) next) in
        subst (AreLaidOut 0 (map bytes_in all))
        (sym (append_assoc text one rest) ∙ ap (λ l. l ++ rest) (sym added)) whole

    pub halts_past : (one : List ℕ) → IsLaidOut i slice one → HaltOn all i → HaltOn all (i + 1)
    halts_past one laid before = λ x rest.
        let read = subst (λ b. IsLaidOut i b one) same laid in
        before x (subst (λ l. FirstHalts i l x) (sym (bytes_at all i bytes h is)) (inr (read.0, rest)))

-- all files are laid out
pub laid_all : (all : List (Vec ℕ Global)) (i : ℕ) (text : List ℕ) → length all ≤ i → LayOn all i text
    → AreLaidOut 0 (map bytes_in all) text
laid_all all i text past before =
    let none : map bytes_in (drop i all) ≡ [] = ap (map bytes_in) (drop_all i all past) in
    let whole = before [] (subst (λ l. AreLaidOut i l []) (sym none) (([], tt), refl)) in
    subst (AreLaidOut 0 (map bytes_in all)) (append-nil text) whole

-- a file with a tree is read
pub tree_read : (file : ℕ) (bytes : List ℕ) (tokens read : List Token) → Cut file bytes tokens
    → IsWithinLimits tokens → read ≡ tokens → HasTree read → (one : ReadFile) × IsRead file bytes one
tree_read file bytes tokens read cut within same has =
    let tree = subst (λ ts. HasTree ts) same has in (
      record { tokens = tokens; end = place_after file bytes; tree = tree.0 },
      record {
        cut = cut;
        within = within;
        end = refl;
        formed = tree.1;
        spelled = tree.2;
        fits = tree.3;
      },
    )

-- ---- what files come to that are laid out

-- a file that halts comes to no layout
halts_laid : (file : ℕ) (all : List (List ℕ)) (text : List ℕ) → FirstHalts file all (outcome.Laid text) → ⊥
halts_laid file [] text h = h
halts_laid file (bytes ∷ all) text h = elim h [
  | inl p ↦ p
  | inr p ↦ halts_laid (file + 1) all text p.1
]

-- files that are judged come to no layout
accepted_laid : (aim : Aim) (reads : List ReadFile) (text : List ℕ) → AcceptedCome aim reads (outcome.Laid text) → ⊥
accepted_laid aims.Run reads text h = h
accepted_laid aims.Compile reads text h = h
accepted_laid aims.Check reads text h = let e : outcome.Laid text ≡ outcome.Accepted = h in cc
accepted_laid aims.Explain reads text h = let e : outcome.Laid text ≡ outcome.Explained (read_lives reads) = h in cc
accepted_laid aims.Format reads text h = let e : outcome.Laid text ≡ outcome.Accepted = h in cc
accepted_laid aims.Caps reads text h = h

program_laid : (files : List Entry) (text : List ℕ) → program_outcome files ≡ Some (outcome.Laid text) → ⊥
program_laid files text h = let e : false ≡ true = judged_before files (outcome.Laid text) h in cc

judged_laid : (aim : Aim) (reads : List ReadFile) (text : List ℕ) → ReadsCome aim reads (outcome.Laid text) → ⊥
judged_laid aim reads text h = elim h [
  | inl p ↦ program_laid (program_files reads) text p
  | inr p ↦ accepted_laid aim reads text p.1
]

-- files that were read come to a layout only where that is asked
read_laid : (aim : Aim) (all : List (List ℕ)) (reads : List ReadFile) (text : List ℕ)
    → AskedCome aim all reads (outcome.Laid text) → (aim ≡ aims.Format) × AreLaid all text
read_laid aims.Run all reads text h = absurd (judged_laid aims.Run reads text h)
read_laid aims.Compile all reads text h = absurd (judged_laid aims.Compile reads text h)
read_laid aims.Check all reads text h = absurd (judged_laid aims.Check reads text h)
read_laid aims.Explain all reads text h = absurd (judged_laid aims.Explain reads text h)
read_laid aims.Format all reads text h = (refl, h)
read_laid aims.Caps all reads text h = absurd (judged_laid aims.Caps reads text h)

-- the bytes of files that come to a layout are laid out
bytes_laid : (aim : Aim) (all : List (List ℕ)) (text : List ℕ) → BytesCome aim all (outcome.Laid text)
    → (aim ≡ aims.Format) × AreLaidOut 0 all text
bytes_laid aim all text h = elim h [
  | inl p ↦ absurd (halts_laid 0 all text p)
  | inr p ↦
      let laid = read_laid aim all p.0 text p.2 in
      (laid.0, ((p.0, p.1), laid.1))
]

-- files come to a layout only where that is asked, and where they have it
pub comes_asked_laid : (aim : Aim) (files : Files) (names : List (List ℕ)) (text : List ℕ)
    → Comes aim files names (outcome.Laid text) → (aim ≡ aims.Format) × HasLayout files names text
comes_asked_laid aim files names text h = elim h [
  | inl p ↦ absurd (let e : outcome.Laid text ≡ outcome.Passes (files_limit (length names)) = p.1 in cc)
  | inr p ↦
      let laid = bytes_laid aim p.1.0 text p.1.2 in
      (laid.0, (p.0, p.1.0, p.1.1, laid.1.0, laid.1.1))
]

pub laid_asked : (aim : Aim) (files : Files) (names : List (List ℕ)) (text : List ℕ)
    → Comes aim files names (outcome.Laid text) → aim ≡ aims.Format
laid_asked aim files names text h = (comes_asked_laid aim files names text h).0

pub comes_laid : (files : Files) (names : List (List ℕ)) (text : List ℕ)
    → Comes aims.Format files names (outcome.Laid text) → HasLayout files names text
comes_laid files names text h = (comes_asked_laid aims.Format files names text h).1

-- files that have a layout come to it
pub laid_comes : (files : Files) (names : List (List ℕ)) (text : List ℕ) → HasLayout files names text
    → Comes aims.Format files names (outcome.Laid text)
laid_comes files names text h = inr (h.0, (h.1, h.2, inr (h.3.0, h.3.1, h.4)))
