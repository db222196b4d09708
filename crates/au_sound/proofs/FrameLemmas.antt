-- The frame with which a call begins.
use Rattle.std.proofs.Common.{◌≡◌, ◌⊎◌, inl, inr, ℕ, zero, suc, ◌+◌, ◌<◌, ◌≤◌, ◌==◌, Bool, true, false, List, [], ◌∷◌}
use Rattle.std.proofs.Common.{◌++◌, length, map, replicate, slice_get, Option, Some, None, refl, sym, ap, subst, ◌∙◌, arith}
use Rattle.std.proofs.Common.{if◌then◌else◌}
use Rattle.std.proofs.lemmas.Bool.{cases_lt, eq-eqb, eqb-true, ne_eqb}
use Rattle.std.proofs.Math.ListN.{length-append}
use Rattle.au_memory.specs.Forests as forest
use Rattle.au_memory.specs.Forests.{Made, empty}
use Rattle.au_lending.specs.Records.{types_made}
use Rattle.au_safe_ships.specs.Frames.{frame_of}
use Rattle.au_meaning.specs.Acts.{new_names}
use Rattle.au_meaning.specs.Worlds.{Value}
use Rattle.au_sound_blocks.specs.Blocks.{Names, with_types}
use Rattle.au_sound_blocks.specs.Lives.{put, put_each}
use Rattle.au_sound_blocks.proofs.FrameLemmas.{each_after, each_before, each_in, put_own, types_before}

-- ---- how its names stand

held_out : (vs : Made) (first k : ℕ) → (k < first) ⊎ (first + length vs ≤ k) → (frame_of first vs).hold k ≡ empty
held_out [] first k out = refl
held_out (v ∷ vs) first k out = by out (λ o. held_out vs (suc first) k o)
  where
    other : (first ≡ k → ⊥) → (frame_of (suc first) vs).hold k ≡ empty → (frame_of first (v ∷ vs)).hold k ≡ empty
    other differ rest =
        ap (λ (b : Bool). if b then forest.ready else (frame_of (suc first) vs).hold k) (ne_eqb first k differ) ∙ rest

    by : (k < first) ⊎ (first + suc (length vs) ≤ k)
        → ((k < suc first) ⊎ (suc first + length vs ≤ k) → (frame_of (suc first) vs).hold k ≡ empty)
        → (frame_of first (v ∷ vs)).hold k ≡ empty
    by (inl less) rest = other (λ same. omega arith) (rest (inl (omega arith)))
    by (inr more) rest = other (λ same. omega arith) (rest (inr (omega arith)))

held_in : (vs : Made) (first k : ℕ) → first ≤ k → k < first + length vs → (frame_of first vs).hold k ≡ forest.ready
held_in [] first k from less = absurd (omega arith)
held_in (v ∷ vs) first k from less =
    by (first == k) refl (cases_lt first k) (λ (more : first < k). held_in vs (suc first) k (omega arith) (omega arith))
  where
    by : (b : Bool) → (first == k) ≡ b → (first < k) ⊎ (k ≤ first)
        → (first < k → (frame_of (suc first) vs).hold k ≡ forest.ready)
        → (if b then forest.ready else (frame_of (suc first) vs).hold k) ≡ forest.ready
    by true is way rest = refl
    by false is (inl more) rest = rest more
    by false is (inr at) rest =
        let same : first ≡ k = omega arith in
        let yes_is : (first == k) ≡ true = eq-eqb first k same in
        let clash : true ≡ false = sym yes_is ∙ is in
        absurd cc

-- they stand as if they were put one after the other
pub held_each : (vs : Made) (first k : ℕ)
    → (frame_of first vs).hold k ≡ put_each first (length vs) forest.ready (λ (j : ℕ). empty) k
held_each vs first k = by (cases_lt k first) (cases_lt k (first + length vs))
  where
    by : (k < first) ⊎ (first ≤ k) → (k < first + length vs) ⊎ (first + length vs ≤ k)
        → (frame_of first vs).hold k ≡ put_each first (length vs) forest.ready (λ (j : ℕ). empty) k
    by (inl less) way =
        held_out vs first k (inl less)
        ∙ sym (each_before first (length vs) k forest.ready (λ (j : ℕ). empty) less)
    by (inr from) (inl less) =
        held_in vs first k from less
        ∙ sym (each_in first (length vs) k forest.ready (λ (j : ℕ). empty) from less)
    by (inr from) (inr more) =
        held_out vs first k (inr more)
        ∙ sym (each_after first (length vs) k forest.ready (λ (j : ℕ). empty) more)

-- ---- their types

types_in : (vs : Made) (first k : ℕ) (names : Names) → first ≤ k → k < first + length vs
    → (frame_of first vs).type k ≡ with_types first (types_made vs) names k
types_in [] first k names from less = absurd (omega arith)
types_in (v ∷ vs) first k names from less =
    by (first == k) refl (cases_lt first k)
    (λ (more : first < k). types_in vs (suc first) k (put first v.1 names) (omega arith) (omega arith))
  where
    at : first ≡ k → v.1 ≡ with_types (suc first) (types_made vs) (put first v.1 names) k
    at same =
        sym (types_before (suc first) (types_made vs) (put first v.1 names) k (omega arith)
        ∙ subst (λ (j : ℕ). put first v.1 names j ≡ v.1) same (put_own first v.1 names))

    by : (b : Bool) → (first == k) ≡ b → (first < k) ⊎ (k ≤ first)
        → (first < k
        → (frame_of (suc first) vs).type k ≡ with_types (suc first) (types_made vs) (put first v.1 names) k)
        → (if b then v.1 else (frame_of (suc first) vs).type k)
        ≡ with_types (suc first) (types_made vs) (put first v.1 names) k
    by true is way rest = at (eqb-true first k is)
    by false is (inl more) rest = rest more
    by false is (inr below_it) rest =
        let same : first ≡ k = omega arith in
        let yes_is : (first == k) ≡ true = eq-eqb first k same in
        let clash : true ≡ false = sym yes_is ∙ is in
        absurd cc

-- a name is empty, or it has the type that it was given
pub typed_each : (vs : Made) (first : ℕ) (names : Names) (k : ℕ)
    → ((frame_of first vs).hold k ≡ empty) ⊎ ((frame_of first vs).type k ≡ with_types first (types_made vs) names k)
typed_each vs first names k = by (cases_lt k first) (cases_lt k (first + length vs))
  where
    by : (k < first) ⊎ (first ≤ k) → (k < first + length vs) ⊎ (first + length vs ≤ k)
        → ((frame_of first vs).hold k ≡ empty)
        ⊎ ((frame_of first vs).type k ≡ with_types first (types_made vs) names k)
    by (inl less) way = inl (held_out vs first k (inl less))
    by (inr from) (inl less) = inr (types_in vs first k names from less)
    by (inr from) (inr more) = inl (held_out vs first k (inr more))

-- ---- how many names it has

length_replicate : {A : Type 0} (n : ℕ) (a : A) → length (replicate n a) ≡ n
length_replicate zero a = refl
length_replicate (suc n) a = ap suc (length_replicate n a)

length_map : {A B : Type 0} (go : A → B) (xs : List A) → length (map go xs) ≡ length xs
length_map go [] = refl
length_map go (x ∷ xs) = ap suc (length_map go xs)

pub length_names : (first : ℕ) (args : List Value) (others : ℕ)
    → length (new_names first args others) ≡ first + (length args + others)
length_names first args others =
    let nothing : Option Value = None in
    let one = length-append (replicate first nothing)
    (map (λ (v : Value). Some v) args ++ replicate others nothing) in
    let two = length-append (map (λ (v : Value). Some v) args) (replicate others nothing) in
    let a : length (replicate first nothing) ≡ first = length_replicate first nothing in
    let b : length (map (λ (v : Value). Some v) args) ≡ length args = length_map (λ (v : Value). Some v) args in
    let c : length (replicate others nothing) ≡ others = length_replicate others nothing in
    omega arith

-- the sizes of frames with one more
pub last_size : (sizes : List ℕ) (n : ℕ) → slice_get (sizes ++ n ∷ []) (length sizes) ≡ Some n
last_size [] n = refl
last_size (m ∷ sizes) n = last_size sizes n

pub length_more : (sizes : List ℕ) (n : ℕ) → length (sizes ++ n ∷ []) ≡ suc (length sizes)
length_more [] n = refl
length_more (m ∷ sizes) n = ap suc (length_more sizes n)
