-- The longest front of a list that passes a test.
use Rattle.std.proofs.Common.{◌≡◌, ℕ, suc, ◌+◌, Bool, true, List, [], ◌∷◌, ◌++◌, length}
use Rattle.std.proofs.Common.{take, ◌∙◌, refl, subst, arith, inl, inr}
use Rattle.std.specs.List.{prefix_len, list_all}
use Rattle.std.proofs.lemmas.Bool.{and_parts, and_from, cond-true}
use Rattle.au_base.proofs.BoolLemmas.{cond_cases}

module _ {X : Type 0} (p : X → Bool) where
  -- what passes, and the front that passes behind it
  pub prefix_pass : (xs ys : List X) → list_all p xs ≡ true → prefix_len p (xs ++ ys) ≡ length xs + prefix_len p ys
  prefix_pass [] ys h = omega arith
  prefix_pass (x ∷ xs) ys h =
      let parts = and_parts (p x) (list_all p xs) h in
      cond-true (p x) (1 + prefix_len p (xs ++ ys)) 0 parts.0
      ∙ (let e = prefix_pass xs ys parts.1 in let r : 1 + prefix_len p (xs ++ ys)
      ≡ length (x ∷ xs) + prefix_len p ys = omega (arith, e) in r)

  -- the front that passes passes
  pub prefix_all : (xs : List X) → list_all p (take (prefix_len p xs) xs) ≡ true
  prefix_all [] = refl
  prefix_all (x ∷ xs) =
      let P : ℕ → Type 0 = λ n. list_all p (take n (x ∷ xs)) ≡ true in
      elim (cond_cases (p x) (1 + prefix_len p xs) 0 (prefix_len p (x ∷ xs)) refl) [
        | inl w ↦ subst P w.1 (subst P (let e : suc (prefix_len p xs) ≡ 1 + prefix_len p xs = omega arith
            in e) (and_from (p x) _ w.0 (prefix_all xs)))
        | inr w ↦ subst P w.1 refl
      ]
