-- Measures of loops over trees: an item is smaller than what holds it.
use Rattle.std.proofs.Common.{◌≡◌, ℕ, ◌+◌, ◌*◌, ◌<◌, ◌≤◌, max, List, length, get_or, ap, arith}
use denote.Param.Weighed.{most, at_most}
use borrow.Author.Sizes.{ranked_below}

-- an item is smaller than the list that holds it; functions are ranked where they take one value
pub item_falls : (ranks low high : ℕ) → low < high → {A : Type 0} (size : A → ℕ) (xs ys : List A)
    (i : ℕ) (x : A) (t : ℕ) → ranks * most size ys + high ≡ t → xs ≡ ys → i < length xs → x ≡ get_or xs i x
    → ranks * size x + low < t
item_falls ranks low high lower size xs ys i x t total same inside is =
    let small : size (get_or xs i x) ≤ most size xs = at_most size xs i x inside in
    let here : size x ≡ size (get_or xs i x) = ap size is in
    let all : most size xs ≡ most size ys = ap (most size) same in
    let under : ranks * size x + low < ranks * most size ys + high =
    ranked_below ranks low high (size x) (most size ys) lower (omega (arith, small, here, all)) in
    omega (arith, under, total)

-- an item of a block is smaller than the block
pub block_item_falls : {A : Type 0} (size : A → ℕ) (xs ys : List A) (i : ℕ) (x : A) (whole t : ℕ)
    → 2 * whole + 0 ≡ t → whole ≡ max (most size ys) 0 + 1 → xs ≡ ys → i < length xs → x ≡ get_or xs i x
    → 2 * size x + 0 < t
block_item_falls size xs ys i x whole t total deep same inside is =
    let small : size (get_or xs i x) ≤ most size xs = at_most size xs i x inside in
    let here : size x ≡ size (get_or xs i x) = ap size is in
    let all : most size xs ≡ most size ys = ap (most size) same in
    omega (arith, small, here, all, deep, total)
