-- Borrows that are closed, the newest first.
use Rattle.std.proofs.Common.{◌≡◌, ℕ, suc, ◌-◌, ◌<◌, List, [], ◌∷◌, ◌++◌, length, reverse, take, drop, sym}
use Rattle.std.proofs.Common.{ap, subst, ◌∙◌, arith}
use Rattle.std.proofs.lemmas.List.{reverse-append, length-append}
use Rattle.au_effects.specs.Worlds.{closes}
use Rattle.au_low.specs.Machines.{LowWorld}

newest : (items : List ℕ) (one : ℕ) → reverse (items ++ one ∷ []) ≡ one ∷ reverse items
newest items one = reverse-append items (one ∷ [])

over : (items : List ℕ) (one count : ℕ) → count < length (items ++ one ∷ [])
    → length (items ++ one ∷ []) - count ≡ suc (length items - count)
over items one count h = let size = length-append items (one ∷ []) in omega (arith, h, size)

-- the newest one is closed first
pub closed_first : (before items : List ℕ) (one count : ℕ) (w after : LowWorld) → before ≡ items ++ one ∷ []
    → count < length before → after ≡ closes (one ∷ []) w
    → closes (take (length items - count) (reverse items)) after
    ≡ closes (take (length before - count) (reverse before)) w
closed_first before items one count w after is h step =
    let size = over items one count (subst (λ xs. count < length xs) is h) in
    ap (closes (take (length items - count) (reverse items))) step
    ∙ ap (λ (xs : List ℕ). closes (take (suc (length items - count)) xs) w) (sym (newest items one))
    ∙ ap (λ n. closes (take n (reverse (items ++ one ∷ []))) w) (sym size)
    ∙ ap (λ (xs : List ℕ). closes (take (length xs - count) (reverse xs)) w) (sym is)

pub left_same : (before items : List ℕ) (one count : ℕ) → before ≡ items ++ one ∷ [] → count < length before
    → drop (length items - count) (reverse items) ≡ drop (length before - count) (reverse before)
left_same before items one count is h =
    let size = over items one count (subst (λ xs. count < length xs) is h) in
    ap (drop (suc (length items - count))) (sym (newest items one))
    ∙ ap (λ n. drop n (reverse (items ++ one ∷ []))) (sym size)
    ∙ ap (λ (xs : List ℕ). drop (length xs - count) (reverse xs)) (sym is)
