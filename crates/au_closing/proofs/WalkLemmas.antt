-- The walk by keys as one by instances.
use Rattle.std.proofs.Common.{◌≡◌, ◌≤◌, ◌+◌, ℕ, zero, suc, Bool, true, false, cond, not, nat_lt, List, []}
use Rattle.std.proofs.Common.{◌∷◌, None, Some, length, map, refl, sym, ap, ◌∙◌, subst, unwrap_or, arith}
use Rattle.std.proofs.Common.{ltb-false}
use Rattle.std.specs.List.{position, prefix_len}
use Rattle.std.specs.Str.{bytes_eq}
use Rattle.std.proofs.lemmas.List.{length-map}
use Rattle.std.proofs.lemmas.List.Sums.{prefix_len-le-length}
use Rattle.au_closing.specs.Instances.{Instance, place_in, same_instance}
use Rattle.au_closing.proofs.ClosesLemmas.{instances_told}
use Rattle.au_closing.specs.Keys.{instance_key}
use Rattle.au_closing.specs.Telling.{instance_one}
use Rattle.au_graphs.specs.Finding.{by_key}
use Rattle.au_graphs.proofs.KeyLemmas.{keys_tell}
use Rattle.au_graphs.proofs.TestLemmas.{same_tests}

-- comparing keys is comparing instances
pub by_keys : by_key instance_key ≡ same_instance
by_keys = same_tests (by_key instance_key) same_instance (keys_tell instance_key instance_one) instances_told

same_key : (x y : Instance) → by_key instance_key x y ≡ same_instance x y
same_key x y = ap (λ (test : Instance → Instance → Bool). test x y) by_keys

-- ---- numbers

place_at : (b : Bool) (p n : ℕ) → nat_lt p n ≡ b → p ≤ n → unwrap_or (cond b (Some p) None) n ≡ p
place_at true p n is within = refl
place_at false p n is within = let past : n ≤ p = ltb-false p n is in omega arith

front_place : (one : Instance) (all : List Instance) → prefix_len (λ k. not (bytes_eq (instance_key one) k))
    (map instance_key all) ≡ place_in one all
front_place one [] = refl
front_place one (first ∷ all) = by (same_instance one first) (sym (same_key one first)) (front_place one all)
  where
    by : (b : Bool) → b ≡ bytes_eq (instance_key one) (instance_key first) →
        prefix_len (λ k. not (bytes_eq (instance_key one) k)) (map instance_key all) ≡ place_in one all
        → cond (not (bytes_eq (instance_key one) (instance_key first)))
        (1 + prefix_len (λ k. not (bytes_eq (instance_key one) k)) (map instance_key all)) 0
        ≡ cond b zero (suc (place_in one all))
    by true is rest = ap (λ c. cond (not c)
        (1 + prefix_len (λ k. not (bytes_eq (instance_key one) k)) (map instance_key all)) 0) (sym is)
    by false is rest =
        ap (λ c. cond (not c) (1 + prefix_len (λ k. not (bytes_eq (instance_key one) k))
        (map instance_key all)) 0) (sym is) ∙ omega (arith, rest)

-- the place of an instance's key, or how many instances there are, is its number
pub number_is : (one : Instance) (all : List Instance) (keys : List (List ℕ)) (key : List ℕ) (count : ℕ) →
    keys ≡ map instance_key all → key ≡ instance_key one → count ≡ length all
    → unwrap_or (position (bytes_eq key) keys) count ≡ place_in one all
number_is one all keys key count these is many =
    let test : List ℕ → Bool = λ k. not (bytes_eq (instance_key one) k) in
    let p = prefix_len test (map instance_key all) in
    let size = length-map all instance_key in
    let same_count : count ≡ length (map instance_key all) = many ∙ sym size in
    (λ i. unwrap_or (position (bytes_eq (is i)) (these i)) (same_count i))
    ∙ place_at (nat_lt p (length (map instance_key all))) p (length (map instance_key all)) refl
    (prefix_len-le-length test (map instance_key all))
    ∙ front_place one all

-- ---- what the walk by keys from these starts says, the walk by instances says from equal ones

pub carried : (P : (Instance → Instance → Bool) → List Instance → Type 0) (before after : List Instance) →
    before ≡ after → P (by_key instance_key) before → P same_instance after
carried P before after is said = subst (P same_instance) is (subst (λ s. P s before) by_keys said)
