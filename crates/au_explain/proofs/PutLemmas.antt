-- What is put behind others, item by item.
use Rattle.std.proofs.Common.{◌≡◌, Bool, true, false, ◌||◌, ℕ, ◌+◌, ◌<◌, ◌≤◌, List, [], ◌∷◌, ◌++◌}
use Rattle.std.proofs.Common.{append_assoc, length, drop, get_or, sym, ap, subst, ◌∙◌}
use Rattle.std.proofs.lemmas.List.{append-nil, drop_all}
use Rattle.std.specs.Prelude.{OnOk, Result}
use Rattle.au_base.specs.declared.faults.Memory.{Memory}
use Rattle.au_base.proofs.ListLemmas.{next_item}

module _ {A B : Type 0} (all : List A → List B) (xs : List A) (i : ℕ) where
  -- an item is put, and those behind it are left
  pub item_put : (a : A) → a ≡ get_or xs i a → i < length xs → (one made next whole : List B) →
      all (a ∷ drop (i + 1) xs) ≡ one ++ all (drop (i + 1) xs) → made ++ all (drop i xs) ≡ whole → next ≡ made ++ one →
      next ++ all (drop (i + 1) xs) ≡ whole
  item_put a is lt one made next whole step before put =
      ap (λ l. l ++ all (drop (i + 1) xs)) put
      ∙ append_assoc made one (all (drop (i + 1) xs))
      ∙ ap (λ l. made ++ l) (sym (ap all (next_item xs i a is lt) ∙ step))
      ∙ before

  -- an item is put, and nothing counts behind it
  pub last_put : (a : A) → a ≡ get_or xs i a → i < length xs → (one made next whole : List B) →
      all (a ∷ drop (i + 1) xs) ≡ one → made ++ all (drop i xs) ≡ whole → next ≡ made ++ one → next ≡ whole
  last_put a is lt one made next whole step before put =
      put ∙ ap (λ l. made ++ l) (sym (ap all (next_item xs i a is lt) ∙ step)) ∙ before

  -- all items are put
  pub items_put : length xs ≤ i → (made whole : List B) → all [] ≡ [] → made ++ all (drop i xs) ≡ whole → made ≡ whole
  items_put past made whole none before =
      sym (append-nil made) ∙ ap (λ l. made ++ l) (sym (ap all (drop_all i xs past) ∙ none)) ∙ before

-- an item of which something holds is found
pub found_here : {A : Type 0} (holds : A → Bool) (any : List A → Bool) →
    ((a : A) (rest : List A) → any (a ∷ rest) ≡ holds a || any rest) →
    (xs : List A) (i : ℕ) (a : A) → a ≡ get_or xs i a → i < length xs → (whole : Bool) → true ≡ holds a →
    any (drop i xs) ≡ whole → true ≡ whole
found_here holds any step xs i a is lt whole h before =
    ap (λ b. b || any (drop (i + 1) xs)) h ∙ sym (ap any (next_item xs i a is lt) ∙ step a (drop (i + 1) xs)) ∙ before

-- an item of which it doesn't hold is passed
pub not_here : {A : Type 0} (holds : A → Bool) (any : List A → Bool) →
    ((a : A) (rest : List A) → any (a ∷ rest) ≡ holds a || any rest) →
    (xs : List A) (i : ℕ) (a : A) → a ≡ get_or xs i a → i < length xs → (whole : Bool) → false ≡ holds a →
    any (drop i xs) ≡ whole →
    any (drop (i + 1) xs) ≡ whole
not_here holds any step xs i a is lt whole h before =
    ap (λ b. b || any (drop (i + 1) xs)) h ∙ sym (ap any (next_item xs i a is lt) ∙ step a (drop (i + 1) xs)) ∙ before

-- two are put, one behind the other
pub both_put : {B : Type 0} (old one two made next : List B) → made ≡ old ++ one → next ≡ made ++ two →
    next ≡ old ++ (one ++ two)
both_put old one two made next first second =
    second ∙ ap (λ l. l ++ two) first ∙ append_assoc old one two

-- the same where the last call may have failed
pub then_put : {B : Type 0} (r : Result (Unit {0}) Memory) (old one two made new : List B) → made ≡ old
    ++ one → OnOk r (new ≡ made ++ two) →
    OnOk r (new ≡ old ++ (one ++ two))
then_put r old one two made new first h =
    subst (λ l. OnOk r (new ≡ l)) (ap (λ l. l ++ two) first ∙ append_assoc old one two) h

-- what is put is told otherwise
pub put_as : {B : Type 0} (r : Result (Unit {0}) Memory) (old new one other : List B) → other ≡ one →
    OnOk r (new ≡ old ++ one) → OnOk r (new ≡ old ++ other)
put_as r old new one other e h = subst (λ l. OnOk r (new ≡ old ++ l)) (sym e) h
