-- The place of the first of some items that passes a test, seen through two views.
use Rattle.std.proofs.Common.{◌≡◌, ◌+◌, Bool, not, cond, nat_lt, List, [], ◌∷◌, map, refl, sym, ap, ◌∙◌}
use Rattle.std.specs.Prelude.{None, Some, position}
use Rattle.std.specs.List.{prefix_len}
use Rattle.std.proofs.lemmas.List.{length-map}

module _ {A B C : Type 0} (p : B → C) (v : A → B) where
  prefix_seen : (test : C → Bool) (xs : List A)
      → prefix_len (λ x. test (p (v x))) xs ≡ prefix_len test (map p (map v xs))
  prefix_seen test [] = refl
  prefix_seen test (x ∷ xs) = ap (λ n. cond (test (p (v x))) (1 + n) 0) (prefix_seen test xs)

  pub place_seen : (test : C → Bool) (xs : List A)
      → position (λ x. test (p (v x))) xs ≡ position test (map p (map v xs))
  place_seen test xs =
      let here = prefix_seen (λ k. not (test k)) xs in
      let many = sym (length-map (map v xs) p ∙ length-map xs v) in
      λ i. cond (nat_lt (here i) (many i)) (Some (here i)) None
