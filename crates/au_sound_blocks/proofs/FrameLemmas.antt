-- Names of a frame by number, of which some are put anew.
use Rattle.std.proofs.Common.{◌≡◌, ◌⊎◌, inl, inr, ℕ, zero, suc, ◌+◌, ◌<◌, ◌≤◌, ◌==◌, Bool, true, false, List, [], ◌∷◌}
use Rattle.std.proofs.Common.{length, refl, sym, ap, subst, ◌∙◌, arith, if◌then◌else◌}
use Rattle.std.proofs.lemmas.Bool.{eq-eqb, eqb-true, ne_eqb}
use Rattle.std.proofs.lemmas.Bool.{cases_lt}
use Rattle.au_types.specs.Types.{Meaning}
use Rattle.au_memory.specs.Forests as forest
use Rattle.au_memory.specs.Forests.{Hold, Made, empty}
use Rattle.au_lending.specs.Records.{types_made}
use Rattle.au_sound_expressions.specs.Filling.{emptied_from, filled_from}
use Rattle.au_sound_expressions.specs.Blocks.{Names, with_types}
use Rattle.au_sound_expressions.specs.Lives.{Standing, put, put_each, spent}
use Rattle.au_sound_expressions.specs.Safe.{Waits, frame}

pub put_own : {A : Type 0} (n : ℕ) (a : A) (all : ℕ → A) → put n a all n ≡ a
put_own n a all = ap (λ (b : Bool). if b then a else all n) (eq-eqb n n refl)

pub put_other : {A : Type 0} (n k : ℕ) (a : A) (all : ℕ → A) → (n ≡ k → ⊥) → put n a all k ≡ all k
put_other n k a all other = ap (λ (b : Bool). if b then a else all k) (ne_eqb n k other)

-- what holds of the one and of the others
pub put_each_way : {A : Type 0} (P : A → Type 0) (n k : ℕ) (a : A) (all : ℕ → A) → (n ≡ k → P a)
    → ((n ≡ k → ⊥) → P (all k))
    → P (put n a all k)
put_each_way P n k a all own other = by (n == k) refl
  where
    by : (b : Bool) → (n == k) ≡ b → P (if b then a else all k)
    by true same = own (eqb-true n k same)
    by false differ = other (λ (same : n ≡ k).
        let is : (n == k) ≡ true = eq-eqb n k same in
        let no : true ≡ false = sym is ∙ differ in
        absurd cc)

-- ---- several

pub each_before : {A : Type 0} (n count k : ℕ) (a : A) (all : ℕ → A) → k < n → put_each n count a all k ≡ all k
each_before n zero k a all less = refl
each_before n (suc count) k a all less =
    each_before (suc n) count k a (put n a all) (omega arith) ∙ put_other n k a all (λ same. omega arith)

pub each_in : {A : Type 0} (n count k : ℕ) (a : A) (all : ℕ → A) → n ≤ k → k < n + count → put_each n count a all k ≡ a
each_in n zero k a all from less = absurd (omega arith)
each_in n (suc count) k a all from less =
    by (cases_lt n k) (λ (more : n < k). each_in (suc n) count k a (put n a all) (omega arith) (omega arith))
  where
    by : (n < k) ⊎ (k ≤ n) → (n < k → put_each (suc n) count a (put n a all) k ≡ a)
        → put_each (suc n) count a (put n a all) k ≡ a
    by (inl more) rest = rest more
    by (inr at) rest =
        let same : n ≡ k = omega arith in
        each_before (suc n) count k a (put n a all) (omega arith)
        ∙ subst (λ (j : ℕ). put n a all j ≡ a) same (put_own n a all)

pub each_after : {A : Type 0} (n count k : ℕ) (a : A) (all : ℕ → A) → n + count ≤ k → put_each n count a all k ≡ all k
each_after n zero k a all from = refl
each_after n (suc count) k a all from =
    each_after (suc n) count k a (put n a all) (omega arith) ∙ put_other n k a all (λ same. omega arith)

-- what holds of what is put and of all others
pub each_way : {A : Type 0} (P : A → Type 0) (n count : ℕ) (a : A) (all : ℕ → A) → P a → ((k : ℕ) → P (all k)) → (k : ℕ)
    → P (put_each n count a all k)
each_way P n zero a all own others k = others k
each_way P n (suc count) a all own others k =
    each_way P (suc n) count a (put n a all) own
    (λ j. put_each_way P n j a all (λ same. own) (λ other. others j)) k

pub types_before : (n : ℕ) (ts : List Meaning) (names : Names) (k : ℕ) → k < n → with_types n ts names k ≡ names k
types_before n [] names k less = refl
types_before n (t ∷ ts) names k less =
    types_before (suc n) ts (put n t names) k (omega arith) ∙ put_other n k t names (λ same. omega arith)

pub types_after : (n : ℕ) (ts : List Meaning) (names : Names) (k : ℕ) → n + length ts ≤ k
    → with_types n ts names k ≡ names k
types_after n [] names k from = refl
types_after n (t ∷ ts) names k from =
    types_after (suc n) ts (put n t names) k (omega arith) ∙ put_other n k t names (λ same. omega arith)

-- ---- frames

pub frame_emptied : (n count : ℕ) (h : Standing) (names : Names)
    → emptied_from n count (frame h names) ≡ frame (put_each n count empty h) names
frame_emptied n zero h names = refl
frame_emptied n (suc count) h names = frame_emptied (suc n) count (put n empty h) names

pub frame_filled : (n : ℕ) (vs : Made) (h : Standing) (names : Names)
    → filled_from n vs (frame h names)
    ≡ frame (put_each n (length vs) forest.ready h) (with_types n (types_made vs) names)
frame_filled n [] h names = refl
frame_filled n (v ∷ vs) h names = frame_filled (suc n) vs (put n forest.ready h) (put n v.1 names)

-- ---- consumption

pub spent_empty : (n : ℕ) (h : Hold) → h ≡ empty → spent n h ≡ empty
spent_empty zero h is = is
spent_empty (suc n) h is = refl

pub waits_spent : (active : ℕ → Bool) (n : ℕ) (h : Hold) → Waits active h → Waits active (spent n h)
waits_spent active zero h waits = waits
waits_spent active (suc n) h waits = tt

pub waits_is : (active : ℕ → Bool) (h g : Hold) → h ≡ g → Waits active h → Waits active g
waits_is active h g same waits = subst (Waits active) same waits
