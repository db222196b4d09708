-- Files that are read in order.
use Rattle.std.proofs.Common.{◌≡◌, ℕ, ◌+◌, ◌<◌, ◌≤◌, List, [], ◌∷◌, ◌++◌, length, get_or, drop, map, Vec, ap}
use Rattle.std.proofs.Common.{◌∙◌, sym, refl, subst, inl, inr, append_assoc}
use Rattle.std.specs.Global.{Global}
use Rattle.std.proofs.lemmas.List.{append-nil, drop_all, drop_more}
use Rattle.au_modules.specs.Programs.{entry}
use Rattle.au_syntax.specs.declared.wholes.FileTree.{FileTree}
use Rattle.au_outcomes.specs.Halts.{bytes_in}
use Rattle.au_accepted.specs.Programs.{entries}
use Rattle.au_outcomes.specs.Reading.{AreKept, IsKept}
use Rattle.au_outcomes.specs.Trees.{FirstHalts, Halts}
use Rattle.au_outcomes.specs.declared.outcomes.Outcome.{Outcome}

-- what comes of the files from an index on, comes of all
abbrev pub KeepOn : List (Vec ℕ Global) → ℕ → List FileTree → Type 0
KeepOn all i trees =
    (ts : List FileTree) → AreKept i (map bytes_in (drop i all)) ts → AreKept 0 (map bytes_in all) (trees ++ ts)

abbrev pub HaltOn : List (Vec ℕ Global) → ℕ → Type 0
HaltOn all i = (x : Outcome) → FirstHalts i (map bytes_in (drop i all)) x → FirstHalts 0 (map bytes_in all) x

-- the file at an index, and those behind it
pub bytes_at : (all : List (Vec ℕ Global)) (i : ℕ) (bytes : Vec ℕ Global) → i < length all →
    bytes ≡ get_or all i bytes → map bytes_in (drop i all) ≡ bytes.items ∷ map bytes_in (drop (i + 1) all)
bytes_at all i bytes h is =
    ap (map bytes_in) (drop_more all i bytes h)
    ∙ ap (λ (b : Vec ℕ Global). b.items ∷ map bytes_in (drop (i + 1) all)) (sym is)

-- one file more is read
kept_one : (file : ℕ) (bytes : List ℕ) (all : List (List ℕ)) (tree : FileTree) (trees : List FileTree)
    → IsKept file bytes tree → AreKept (file + 1) all trees → AreKept file (bytes ∷ all) (tree ∷ trees)
unfolding entries
kept_one file bytes all tree trees one rest = (
  one.0 ∷ rest.0,
  (one.1, rest.1),
  ap (λ e. e ∷ map entry trees) one.2
      ∙ ap (λ l. record { file = file; tree = one.0.tree } ∷ l) rest.2,
)

kept_none : (file : ℕ) → AreKept file [] []
unfolding entries
kept_none file = ([], tt, refl)

one_behind : {X : Type 0} (xs : List X) (x : X) (more ys : List X) → more ≡ xs ++ x ∷ [] → xs ++ x ∷ ys ≡ more ++ ys
one_behind xs x more ys is = sym (append_assoc xs (x ∷ []) ys) ∙ ap (λ l. l ++ ys) (sym is)

module _
    (all : List (Vec ℕ Global)) (i : ℕ) (bytes : Vec ℕ Global) (text : List ℕ)
    (h : i < length all) (is : bytes ≡ get_or all i bytes) (same : text ≡ bytes.items)
  where
    pub kept_more : (tree : FileTree) (trees more : List FileTree) → more ≡ trees ++ tree ∷ []
        → IsKept i text tree → KeepOn all i trees → KeepOn all (i + 1) more
    kept_more tree trees more pushed kept before = λ ts rest.
        let one = kept_one i bytes.items (map bytes_in (drop (i + 1) all)) tree ts
        (subst (λ b. IsKept i b tree) same kept) rest in
        let whole = before (tree ∷ ts) (subst (λ l. AreKept i l (tree ∷ ts)) (sym (bytes_at all i bytes h is)) one) in
        subst (AreKept 0 (map bytes_in all)) (one_behind trees tree more ts pushed) whole

    pub halts_more : (tree : FileTree) → IsKept i text tree → HaltOn all i → HaltOn all (i + 1)
    halts_more tree kept before = λ x rest.
        let one = subst (λ b. IsKept i b tree) same kept in
        before x (subst (λ l. FirstHalts i l x) (sym (bytes_at all i bytes h is)) (inr ((one.0, one.1), rest)))

    pub halts_here : (x : Outcome) → Halts i text x → HaltOn all i → FirstHalts 0 (map bytes_in all) x
    halts_here x halts before = before x
        (subst (λ l. FirstHalts i l x) (sym (bytes_at all i bytes h is))
        (inl (subst (λ b. Halts i b x) same halts)))

-- all files are read
pub kept_all : (all : List (Vec ℕ Global)) (i : ℕ) (trees : List FileTree) → length all ≤ i → KeepOn all i trees
    → AreKept 0 (map bytes_in all) trees
kept_all all i trees past before =
    let none : map bytes_in (drop i all) ≡ [] = ap (map bytes_in) (drop_all i all past) in
    let whole = before [] (subst (λ l. AreKept i l []) (sym none) (kept_none i)) in
    subst (AreKept 0 (map bytes_in all)) (append-nil trees) whole
