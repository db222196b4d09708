-- Steps of the proofs of loops over the items of a tree.
use Rattle.std.proofs.Common.{◌≡◌, ℕ, ◌+◌, ◌<◌, ◌≤◌, Bool, List, [], ◌∷◌, ◌++◌, length, take}
use Rattle.std.proofs.Common.{get_or, ap, ◌∙◌, sym}
use Rattle.std.proofs.lemmas.List.{append_assoc, append-nil, take_all, take_more}
use Rattle.au_graphs.specs.Reached.{adds}
use Rattle.au_graphs.proofs.HasLemmas.{adds_both}

-- ---- lists that are made

-- a loop over all items has made them all
pub all_made : {A B D : Type 0} (turn : B → D) (all : List A → B) (made : D) (xs ys : List A) (i : ℕ)
    → made ≡ turn (all (take i xs)) → xs ≡ ys → length xs ≤ i → made ≡ turn (all ys)
all_made turn all made xs ys i so_far same ends =
    so_far ∙ ap (λ l. turn (all l)) (take_all i xs ends ∙ same)

-- One more item is made, where lists are seen as a whole: one more stands behind what is seen of the others,
-- in the old list and in the new one, and what becomes of all together is what becomes of each.
pub made_more : {A B E F D G : Type 0} (new_all : List A → B) (new_snoc : B → E → B) (new_see : A → E)
    (old_all : List F → D) (old_snoc : D → G → D) (old_see : F → G) (turn_all : D → B) (turn : G → E)
    → ((xs : List A) (x : A) → new_all (xs ++ x ∷ []) ≡ new_snoc (new_all xs) (new_see x))
    → ((xs : List F) (x : F) → old_all (xs ++ x ∷ []) ≡ old_snoc (old_all xs) (old_see x))
    → ((d : D) (y : G) → turn_all (old_snoc d y) ≡ new_snoc (turn_all d) (turn y))
    → (made pushed : List A) (xs : List F) (i : ℕ) (x : F) (new : A)
    → new_all made ≡ turn_all (old_all (take i xs))
    → i < length xs
    → x ≡ get_or xs i x
    → pushed ≡ made ++ new ∷ []
    → new_see new ≡ turn (old_see x)
    → new_all pushed ≡ turn_all (old_all (take (i + 1) xs))
made_more new_all new_snoc new_see old_all old_snoc old_see turn_all turn
    new_push old_push turn_push made pushed xs i x new so_far inside is grows same =
    ap new_all grows
    ∙ new_push made new
    ∙ ap (λ b. new_snoc b (new_see new)) so_far
    ∙ ap (new_snoc (turn_all (old_all (take i xs)))) (same ∙ ap (λ y. turn (old_see y)) is)
    ∙ sym (turn_push (old_all (take i xs)) (old_see (get_or xs i x)))
    ∙ sym (ap turn_all (old_push (take i xs) (get_or xs i x)))
    ∙ sym (ap (λ l. turn_all (old_all l)) (take_more xs i x inside))

-- ---- lists that are found

-- what is found at one more item stands behind what is found at the others
pub found_more : {A F D G : Type 0} (old_all : List F → D) (old_snoc : D → G → D) (old_see : F → G)
    (say_all : D → List A) (say : G → List A)
    → ((xs : List F) (x : F) → old_all (xs ++ x ∷ []) ≡ old_snoc (old_all xs) (old_see x))
    → ((d : D) (y : G) → say_all (old_snoc d y) ≡ say_all d ++ say y)
    → (start so_far now : List A) (xs : List F) (i : ℕ) (x : F)
    → so_far ≡ start ++ say_all (old_all (take i xs))
    → i < length xs
    → x ≡ get_or xs i x
    → now ≡ so_far ++ say (old_see x)
    → now ≡ start ++ say_all (old_all (take (i + 1) xs))
found_more old_all old_snoc old_see say_all say
    old_push say_push start so_far now xs i x found inside is grows =
    let before = say_all (old_all (take i xs)) in
    let last = get_or xs i x in
    grows
    ∙ ap (λ r. r ++ say (old_see x)) found
    ∙ append_assoc start before (say (old_see x))
    ∙ ap (λ y. start ++ (before ++ say (old_see y))) is
    ∙ ap (λ r. start ++ r) (sym (say_push (old_all (take i xs)) (old_see last)))
    ∙ ap (λ d. start ++ say_all d) (sym (old_push (take i xs) last))
    ∙ ap (λ l. start ++ say_all (old_all l)) (sym (take_more xs i x inside))

-- what is found of an item alone, with nothing behind it
pub alone_behind : {A : Type 0} (so_far last now : List A) → now ≡ so_far ++ last → now ≡ so_far ++ (last ++ [])
alone_behind so_far last now is = is ∙ ap (λ r. so_far ++ r) (sym (append-nil last))

-- what one more item adds is added to what the others add
pub added_more : {A F D G : Type 0} (same : A → A → Bool) (old_all : List F → D) (old_snoc : D → G → D)
    (old_see : F → G) (say_all : D → List A) (say : G → List A)
    → ((xs : List F) (x : F) → old_all (xs ++ x ∷ []) ≡ old_snoc (old_all xs) (old_see x))
    → ((d : D) (y : G) → say_all (old_snoc d y) ≡ say_all d ++ say y)
    → (start so_far now : List A) (xs : List F) (i : ℕ) (x : F)
    → so_far ≡ adds same start (say_all (old_all (take i xs)))
    → i < length xs
    → x ≡ get_or xs i x
    → now ≡ adds same so_far (say (old_see x))
    → now ≡ adds same start (say_all (old_all (take (i + 1) xs)))
added_more same old_all old_snoc old_see say_all say
    old_push say_push start so_far now xs i x found inside is grows =
    let before = say_all (old_all (take i xs)) in
    let last = get_or xs i x in
    grows
    ∙ ap (λ r. adds same r (say (old_see x))) found
    ∙ sym (adds_both same start before (say (old_see x)))
    ∙ ap (λ y. adds same start (before ++ say (old_see y))) is
    ∙ ap (adds same start) (sym (say_push (old_all (take i xs)) (old_see last)))
    ∙ ap (λ d. adds same start (say_all d)) (sym (old_push (take i xs) last))
    ∙ ap (λ l. adds same start (say_all (old_all l))) (sym (take_more xs i x inside))

-- what an item alone adds, with nothing behind it
pub added_alone : {A : Type 0} (same : A → A → Bool) (so_far last now : List A) → now ≡ adds same so_far last
    → now ≡ adds same so_far (last ++ [])
added_alone same so_far last now is = is ∙ ap (adds same so_far) (sym (append-nil last))
