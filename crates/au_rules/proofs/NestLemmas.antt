-- What is left of names in scope where a block is left.
use Rattle.std.proofs.Common.{◌≡◌, ℕ, zero, suc, List, [], ◌∷◌, ◌++◌, reverse, take, refl, sym, ap, ◌∙◌}
use Rattle.std.proofs.lemmas.List.{reverse-append}
use Rattle.au_types.specs.Tables.{pairs_by}
use Rattle.au_rules.specs.Nests.{left}

module _ {K V : Type 0} (name_of : K → List ℕ) where
  -- the first pairs are those of the first entries
  pairs_take : (n : ℕ) (es : List (K × V)) → pairs_by (take n es) name_of ≡ take n (pairs_by es name_of)
  pairs_take zero es = refl
  pairs_take (suc n) [] = refl
  pairs_take (suc n) (e ∷ es) = ap (λ r. (name_of e.0, e.1) ∷ r) (pairs_take n es)

  -- the innermost block is the last that was entered
  pub left_is : (es kept : List (K × V)) (begins rest : List ℕ) (begin : ℕ) → kept ≡ take begin es → begins
      ≡ rest ++ begin ∷ []
      → (pairs_by kept name_of, reverse rest) ≡ left (pairs_by es name_of, reverse begins)
  left_is es kept begins rest begin cut last =
      ap (λ k. (pairs_by k name_of, reverse rest)) cut
      ∙ ap (λ p. (p, reverse rest)) (pairs_take begin es)
      ∙ ap (λ b. left (pairs_by es name_of, b)) (sym (ap reverse last ∙ reverse-append rest (begin ∷ [])))
