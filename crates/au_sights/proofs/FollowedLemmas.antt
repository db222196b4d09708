-- Walks along lists that are seen through two views: what stops at the first that means nothing, what is made
-- of each, and what is found first.
use Rattle.std.proofs.Common.{◌≡◌, ℕ, ◌+◌, ◌<◌, ◌≤◌, Bool, true, false, cond, List, [], ◌∷◌, ◌++◌, length}
use Rattle.std.proofs.Common.{map, drop, get_or, find, Option, None, Some, refl, sym, ap, ◌∙◌}
use Rattle.std.specs.Option.{option_map}
use Rattle.std.proofs.lemmas.List.{append-nil, append_assoc, drop_all, map-append}
use Rattle.au_base.proofs.ListLemmas.{seen_left}
use Rattle.au_typing.specs.Written.{followed}

module _ {A B C X D : Type 0} (p : B → C) (v : A → B) (f : C → Option X) (all : List C → Option (List X))
    (s : D → X) where
  -- what is made so far, before what is left
  abbrev pub SoFar : List A → ℕ → List D → Type 0
  SoFar items i done = all (map p (map v items)) ≡ option_map (λ rest. map s done ++ rest)
      (all (map p (map v (drop i items))))

  pub so_far_none : (items : List A) (done : List D) → done ≡ [] → SoFar items 0 done
  so_far_none items done none = by (all (map p (map v items)))
      ∙ ap (λ r. option_map (λ rest. map s r ++ rest) (all (map p (map v items)))) (sym none)
    where
      by : (o : Option (List X)) → o ≡ option_map (λ rest. rest) o
      by None = refl
      by (Some xs) = refl

  module _ (more : (c : C) (cs : List C) → all (c ∷ cs) ≡ followed (f c) (all cs)) (items : List A) (i : ℕ)
      (x : A) (done : List D) (less : i < length items) (here : x ≡ get_or items i x)
      (so_far : SoFar items i done) where
    abbrev tail : Option (List X)
    tail = all (map p (map v (drop (i + 1) items)))

    split : (o : Option X) → f (p (v x)) ≡ o → all (map p (map v items))
        ≡ option_map (λ rest. map s done ++ rest) (followed o tail)
    split o is =
        so_far
        ∙ ap (λ r. option_map (λ rest. map s done ++ rest) (all r)) (seen_left p v items i x less here)
        ∙ ap (option_map (λ rest. map s done ++ rest)) (more (p (v x)) (map p (map v (drop (i + 1) items))))
        ∙ ap (λ r. option_map (λ rest. map s done ++ rest) (followed r tail)) is

    -- one more is made
    pub so_far_next : (one : D) (after : List D) → Some (s one) ≡ f (p (v x)) → after ≡ done ++ one ∷ [] →
        SoFar items (i + 1) after
    so_far_next one after made pushed = split (Some (s one)) (sym made) ∙ by tail
        ∙ ap (λ r. option_map (λ rest. map s r ++ rest) tail) (sym pushed)
      where
        by : (o : Option (List X)) → option_map (λ rest. map s done ++ rest) (followed (Some (s one)) o)
            ≡ option_map (λ rest. map s (done ++ one ∷ []) ++ rest) o
        by None = refl
        by (Some xs) =
            ap Some
            (sym (append_assoc (map s done) (s one ∷ []) xs)
            ∙ ap (λ r. r ++ xs) (sym (map-append s done (one ∷ []))))

    -- one means nothing
    pub so_far_stops : (whole : List A) → items ≡ whole → None ≡ f (p (v x)) → None ≡ all (map p (map v whole))
    so_far_stops whole same none = sym (split None (sym none)) ∙ ap (λ r. all (map p (map v r))) same

  pub so_far_all : all [] ≡ Some [] → (whole items : List A) (i : ℕ) (done : List D) → items ≡ whole →
      length items ≤ i → SoFar items i done → Some (map s done) ≡ all (map p (map v whole))
  so_far_all nothing whole items i done same past so_far =
      sym
      (so_far
      ∙ ap (λ r. option_map (λ rest. map s done ++ rest) (all (map p (map v r)))) (drop_all i items past)
      ∙ ap (option_map (λ rest. map s done ++ rest)) nothing
      ∙ ap Some (append-nil (map s done)))
      ∙ ap (λ r. all (map p (map v r))) same

-- ---- what is found first

module _ {A B C : Type 0} (p : B → C) (v : A → B) (t : C → Bool) where
  -- nothing is found so far
  abbrev pub NoneYet : List A → ℕ → Type 0
  NoneYet items i = find t (map p (map v items)) ≡ find t (map p (map v (drop i items)))

  module _ (items : List A) (i : ℕ) (x : A) (less : i < length items) (here : x ≡ get_or items i x)
      (none : NoneYet items i) where
    step : (b : Bool) → t (p (v x)) ≡ b → find t (map p (map v items)) ≡ cond b (Some (p (v x)))
        (find t (map p (map v (drop (i + 1) items))))
    step b is =
        none
        ∙ ap (find t) (seen_left p v items i x less here)
        ∙ ap (λ c. cond c (Some (p (v x))) (find t (map p (map v (drop (i + 1) items))))) is

    pub found_here : (whole : List A) → items ≡ whole → t (p (v x)) ≡ true →
        Some (p (v x)) ≡ find t (map p (map v whole))
    found_here whole same is = sym (step true is) ∙ ap (λ r. find t (map p (map v r))) same

    pub not_here : t (p (v x)) ≡ false → NoneYet items (i + 1)
    not_here is = step false is

  pub found_nowhere : (whole items : List A) (i : ℕ) → items ≡ whole → length items ≤ i → NoneYet items i →
      None ≡ find t (map p (map v whole))
  found_nowhere whole items i same past none =
      sym (none ∙ ap (λ r. find t (map p (map v r))) (drop_all i items past)) ∙ ap (λ r. find t (map p (map v r))) same
