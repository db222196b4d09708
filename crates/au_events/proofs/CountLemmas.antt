-- Lists of events with one more at the end.
use Rattle.std.proofs.Common.{◌≡◌, ◌⊎◌, inl, inr, ℕ, ◌+◌, ◌≤◌, List, [], ◌∷◌, ◌++◌, refl, ap, ◌∙◌, arith}
use Rattle.au_effects.specs.Worlds.{Deed}
use Rattle.au_events.specs.Counts.{summed}

-- An element stands in a list with one more at its end: it is that one, or stands in the list.
abbrev pub Stands : {A : Type 0} → List A → A → List A → A → Type 0
Stands es e before one =
    ((es ≡ before) × (e ≡ one)) ⊎ ((after : List _) × (es ≡ before ++ one ∷ after))

not_empty : {A : Type 0} (before after : List A) (one : A) → [] ≡ before ++ one ∷ after → ⊥
not_empty [] after one h = cc
not_empty (b ∷ before) after one h = cc

in_front : {A : Type 0} (x b : A) (xs before : List A) (e one : A) → x ≡ b → Stands xs e before one
    → Stands (x ∷ xs) e (b ∷ before) one
in_front x b xs before e one same (inl both) = inl (ap (λ l. x ∷ l) both.0 ∙ ap (λ y. y ∷ before) same, both.1)
in_front x b xs before e one same (inr pair) =
    inr (pair.0, ap (λ l. x ∷ l) pair.1 ∙ ap (λ y. y ∷ (before ++ one ∷ pair.0)) same)

pub push_splits : {A : Type 0} (es : List A) (e : A) (before after : List A) (one : A)
    → es ++ e ∷ [] ≡ before ++ one ∷ after → Stands es e before one
push_splits [] e [] after one h = let same : e ≡ one = cc in inl (refl, same)
push_splits [] e (b ∷ before) after one h =
    let rest : [] ≡ before ++ one ∷ after = cc in absurd (not_empty before after one rest)
push_splits (x ∷ xs) e [] after one h = let same : x ≡ one = cc in inr (xs, ap (λ y. y ∷ xs) same)
push_splits (x ∷ xs) e (b ∷ before) after one h =
    let same : x ≡ b = cc in
    let rest : xs ++ e ∷ [] ≡ before ++ one ∷ after = cc in
    in_front x b xs before e one same (push_splits xs e before after one rest)

module _ {B : Type 0} (each : Deed B → ℕ) where
  pub summed_push : (es : List (Deed B)) (e : Deed B) → summed each (es ++ e ∷ []) ≡ summed each es + each e
  summed_push [] e = omega arith
  summed_push (first ∷ es) e = let more = summed_push es e in omega arith

  in_split : (before after : List (Deed B)) (e : Deed B) → each e ≤ summed each (before ++ e ∷ after)
  in_split [] after e = omega arith
  in_split (first ∷ before) after e = let more = in_split before after e in omega arith

  -- an event of a list counts in it
  pub counted : (es before after : List (Deed B)) (e : Deed B) → es ≡ before ++ e ∷ after
      → each e ≤ summed each es
  counted es before after e h = rw h (in_split before after e)
