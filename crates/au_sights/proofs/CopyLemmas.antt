-- Steps of the proofs of copies: loops over items.
use Rattle.std.proofs.Common.{◌≡◌, ℕ, ◌+◌, ◌<◌, ◌≤◌, List, [], ◌∷◌, ◌++◌, length, take, get_or, ap, ◌∙◌, sym}
use Rattle.std.proofs.lemmas.List.{take_all, take_more}

-- a loop over all items has copied them all
pub all_copied : {A B : Type 0} (see : List A → B) (made xs ys : List A) (i : ℕ) →
    see made ≡ see (take i xs) → xs ≡ ys → length xs ≤ i → see made ≡ see ys
all_copied see made xs ys i so_far same ends = so_far ∙ ap see (take_all i xs ends ∙ same)

-- one more item is copied, where lists are seen as a whole, and one more item stands behind what is seen of the others
pub copied_more : {A B D : Type 0} (all : List A → B) (snoc : B → D → B) (see : A → D)
    (push : (xs : List A) (x : A) → all (xs ++ x ∷ []) ≡ snoc (all xs) (see x))
    (made pushed xs : List A) (i : ℕ) (x copy : A) →
    all made ≡ all (take i xs) → i < length xs → x ≡ get_or xs i x → pushed ≡ made ++ copy ∷ [] → see copy ≡ see x →
    all pushed ≡ all (take (i + 1) xs)
copied_more all snoc see push made pushed xs i x copy so_far inside is grows same =
    ap all grows
    ∙ push made copy
    ∙ ap (λ b. snoc b (see copy)) so_far
    ∙ ap (snoc (all (take i xs))) (same ∙ ap see is)
    ∙ sym (push (take i xs) (get_or xs i x))
    ∙ sym (ap all (take_more xs i x inside))
