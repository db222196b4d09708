-- Items of lists, by their numbers.
use Rattle.std.proofs.Common.{◌≡◌, ℕ, suc, ◌-◌, ◌<◌, ◌≤◌, List, ◌∷◌, length, drop, get_or, sym, ap, ◌∙◌}
use Rattle.std.proofs.Common.{arith, drop-cons}

-- an item and those behind it, from the last to the first
pub item_before : {A : Type 0} (xs : List A) (left : ℕ) (a : A) → a ≡ get_or xs (left - 1) a → 0 < left →
    left ≤ length xs → drop (left - 1) xs ≡ a ∷ drop left xs
item_before xs left a is some within =
    let e : suc (left - 1) ≡ left = omega (arith, some) in
    drop-cons xs (left - 1) a (omega (arith, some, within))
    ∙ ap (λ one. one ∷ drop (suc (left - 1)) xs) (sym is)
    ∙ ap (λ n. a ∷ drop n xs) e
