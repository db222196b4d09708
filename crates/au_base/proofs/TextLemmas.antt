-- Texts that are told apart by their bytes.
use Rattle.std.proofs.Common.{◌≡◌, ℕ, true, false, List, true≢false, subst, refl, sym, ◌∙◌}
use Rattle.std.proofs.lemmas.Bool.{false_from_ne_true}
use Rattle.std.proofs.lemmas.Slice.Eq.{bytes_eq-Decides}
use Rattle.std.specs.Str.{bytes_eq}

-- a text is equal to itself
pub bytes_self : (a : List ℕ) → bytes_eq a a ≡ true
bytes_self a = (bytes_eq-Decides a a).1 refl

-- texts that are found equal are one
pub bytes_same : (a b : List ℕ) → bytes_eq a b ≡ true → a ≡ b
bytes_same a b h = (bytes_eq-Decides a b).0 h

-- the order of the two doesn't matter
pub bytes_differ : (a b : List ℕ) → bytes_eq a b ≡ false → bytes_eq b a ≡ false
bytes_differ a b e = false_from_ne_true (bytes_eq b a)
    (λ h. true≢false (sym (subst (λ c. bytes_eq a c ≡ true) (sym (bytes_same b a h)) (bytes_self a)) ∙ e))
