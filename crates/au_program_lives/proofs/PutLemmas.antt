-- What is put behind others, item by item.
use Rattle.std.proofs.Common.{◌≡◌, ℕ, ◌+◌, ◌<◌, ◌≤◌, List, [], ◌∷◌, ◌++◌, append_assoc, length, drop}
use Rattle.std.proofs.Common.{get_or, sym, ap, subst, ◌∙◌}
use Rattle.std.proofs.lemmas.List.{append-nil, drop_all}
use Rattle.std.specs.Prelude.{OnOk, Result}
use Rattle.au_base.specs.declared.faults.Memory.{Memory}
use Rattle.au_base.proofs.ListLemmas.{next_item}
use Rattle.au_lives.specs.declared.lives.Sort.{Sort}
use Rattle.au_program_lives.specs.Scopes.{TypeScope}

-- what items give, each before those behind it
pub record Giving (A : Type 0) : Type 0 where
  pub all : List A → List Sort
  pub one : A → List Sort
  pub step : (a : A) (rest : List A) → all (a ∷ rest) ≡ one a ++ all rest
  pub none : all [] ≡ []

-- an item is put
pub item_put : {A : Type 0} (d : Giving A) (xs : List A) (i : ℕ) (a : A) → a ≡ get_or xs i a → i < length xs →
    (made next whole : List Sort) → made ++ d.all (drop i xs) ≡ whole → next ≡ made ++ d.one a →
    next ++ d.all (drop (i + 1) xs) ≡ whole
item_put d xs i a is lt made next whole before put =
    ap (λ l. l ++ d.all (drop (i + 1) xs)) put
    ∙ append_assoc made (d.one a) (d.all (drop (i + 1) xs))
    ∙ ap (λ l. made ++ l) (sym (ap d.all (next_item xs i a is lt) ∙ d.step a (drop (i + 1) xs)))
    ∙ before

-- all items are put
pub items_put : {A : Type 0} (d : Giving A) (xs : List A) (i : ℕ) → length xs ≤ i →
    (made whole : List Sort) → made ++ d.all (drop i xs) ≡ whole → made ≡ whole
items_put d xs i past made whole before =
    sym (append-nil made) ∙ ap (λ l. made ++ l) (sym (ap d.all (drop_all i xs past) ∙ d.none)) ∙ before

-- two are put, one behind the other
pub both_put : (old one two made next : List Sort) → made ≡ old ++ one → next ≡ made ++ two → next ≡ old ++ (one ++ two)
both_put old one two made next first second =
    second ∙ ap (λ l. l ++ two) first ∙ append_assoc old one two

-- the same where the last call may have failed
pub then_put : (r : Result (Unit {0}) Memory) (old one two made new : List Sort) → made ≡ old ++ one →
    OnOk r (new ≡ made ++ two) →
    OnOk r (new ≡ old ++ (one ++ two))
then_put r old one two made new first h =
    subst (λ l. OnOk r (new ≡ l)) (ap (λ l. l ++ two) first ∙ append_assoc old one two) h

-- what is put is told otherwise
pub put_as : (r : Result (Unit {0}) Memory) (old new one other : List Sort) → other ≡ one →
    OnOk r (new ≡ old ++ one) → OnOk r (new ≡ old ++ other)
put_as r old new one other e h = subst (λ l. OnOk r (new ≡ old ++ l)) (sym e) h

-- what is put is that of an equal scope
pub at_scope : (all : TypeScope → List Sort) (x y : TypeScope) → x ≡ y → (old new : List Sort) → new ≡ old
    ++ all x → new ≡ old ++ all y
at_scope all x y e old new h = h ∙ ap (λ s. old ++ all s) e
