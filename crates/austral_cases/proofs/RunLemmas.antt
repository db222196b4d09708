-- How a tally goes on.
use Rattle.std.proofs.Common.{◌≡◌, ℕ, ◌+◌, ◌∙◌, ap, refl, subst, sym, map, All, List, [], ◌∷◌, ◌++◌, length, arith}
use Rattle.std.proofs.lemmas.List.{length_push}
use Rattle.std.proofs.lemmas.List.Elements.{All-push}

-- One more that passed, of which P holds.
pub one_passed : {X : Type 0} (P : X → Type 0) (xs : List X) (x : X) (passed failed : ℕ)
    → (passed + failed ≡ length xs) × (failed ≡ 0 → All P xs) → P x
    → (passed + 1 + failed ≡ length (xs ++ x ∷ [])) × (failed ≡ 0 → All P (xs ++ x ∷ []))
one_passed P xs x passed failed so_far holds =
    let more = length_push xs x in
    (omega (arith, so_far.0, more), λ none. All-push P xs x (so_far.1 none) holds)

-- One more that failed.
pub one_failed : {X : Type 0} (P : X → Type 0) (xs : List X) (x : X) (passed failed : ℕ)
    → passed + failed ≡ length xs
    → (passed + (failed + 1) ≡ length (xs ++ x ∷ [])) × (failed + 1 ≡ 0 → All P (xs ++ x ∷ []))
one_failed P xs x passed failed so_far =
    let more = length_push xs x in
    (omega (arith, so_far, more), λ none. absurd (let never : ⊥ = omega (arith, none) in never))

-- a list with each item as it is
as_it_is : {X : Type 0} (xs : List X) → map (λ x. x) xs ≡ xs
as_it_is [] = refl
as_it_is (x ∷ xs) = ap (λ rest. x ∷ rest) (as_it_is xs)

-- What holds of all items so far holds of all items, if these are the same.
pub all_so_far : {X : Type 0} (P : X → Type 0) (xs all : List X) → map (λ x. x) xs ≡ all → All P xs → All P all
all_so_far P xs all same holds = subst (All P) (sym (as_it_is xs) ∙ same) holds
