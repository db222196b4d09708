-- First places, part by part.
use Rattle.std.proofs.Common.{◌≡◌, ℕ, ◌+◌, ◌<◌, ◌≤◌, List, [], ◌∷◌, ◌++◌, length, drop, get_or, refl, sym, ap}
use Rattle.std.proofs.Common.{◌∙◌, Option, None, Some}
use Rattle.std.proofs.lemmas.List.{drop_all}
use Rattle.au_base.specs.declared.places.Pos.{Pos}
use Rattle.au_base.proofs.ListLemmas.{next_item}
use Rattle.au_linear.specs.Firsts.{first_of, or_else}

-- the first place of two parts
pub first_and : (a b : List Pos) → first_of (a ++ b) ≡ or_else (first_of a) (first_of b)
first_and [] b = refl
first_and (at ∷ rest) b = refl

-- the first place of three parts
pub first_and_both : (a b c : List Pos) → first_of (a ++ (b ++ c)) ≡ or_else (first_of a)
    (or_else (first_of b) (first_of c))
first_and_both a b c = first_and a (b ++ c) ∙ ap (or_else (first_of a)) (first_and b c)

pub ruleset first_steps = (first_and, first_and_both)

-- one part has a place
pub found : (a b : List Pos) (all : Option Pos) (at : Pos) → first_of (a ++ b) ≡ all → Some at ≡ first_of a →
    Some at ≡ all
found a b all at before h = ap (λ o. or_else o (first_of b)) h ∙ sym (first_and a b) ∙ before

-- one part has none
pub passed : (a b : List Pos) (all : Option Pos) → first_of (a ++ b) ≡ all → None ≡ first_of a → first_of b ≡ all
passed a b all before h = ap (λ o. or_else o (first_of b)) h ∙ sym (first_and a b) ∙ before

-- The places of a list, in a state that goes from item to item: those of its first item and those of the items
-- behind.
pub record Listing (A S : Type 0) : Type 0 where
  pub places : S → List A → List Pos
  pub one : S → A → List Pos
  pub after : S → A → S
  pub step : (s : S) (a : A) (rest : List A) → places s (a ∷ rest) ≡ one s a ++ places (after s a) rest
  pub none : (s : S) → places s [] ≡ []

-- What is left of a list has the first place of all; so it is that of an item, or is behind.
module _ {A S : Type 0} (l : Listing A S) where
  item_split : (xs : List A) (i : ℕ) (a : A) → a ≡ get_or xs i a → i < length xs → (s : S) →
      l.places s (drop i xs) ≡ l.one s a ++ l.places (l.after s a) (drop (i + 1) xs)
  item_split xs i a is lt s = ap (l.places s) (next_item xs i a is lt) ∙ l.step s a (drop (i + 1) xs)

  pub item_found : (xs : List A) (i : ℕ) (a : A) → a ≡ get_or xs i a → i < length xs →
      (s : S) (all : Option Pos) (at : Pos) →
      first_of (l.places s (drop i xs)) ≡ all → Some at ≡ first_of (l.one s a) → Some at ≡ all
  item_found xs i a is lt s all at before h =
      found (l.one s a) (l.places (l.after s a) (drop (i + 1) xs)) all at
      (sym (ap first_of (item_split xs i a is lt s)) ∙ before) h

  pub item_passed : (xs : List A) (i : ℕ) (a : A) → a ≡ get_or xs i a → i < length xs → (s t : S) (all : Option Pos) →
      first_of (l.places s (drop i xs)) ≡ all → None ≡ first_of (l.one s a) → t ≡ l.after s a →
      first_of (l.places t (drop (i + 1) xs)) ≡ all
  item_passed xs i a is lt s t all before h e =
      ap (λ u. first_of (l.places u (drop (i + 1) xs))) e
      ∙ passed (l.one s a) (l.places (l.after s a) (drop (i + 1) xs)) all
      (sym (ap first_of (item_split xs i a is lt s)) ∙ before) h

  pub items_end : (xs : List A) (i : ℕ) → length xs ≤ i → (s : S) (all : Option Pos) →
      first_of (l.places s (drop i xs)) ≡ all → None ≡ all
  items_end xs i h s all before = sym (ap first_of (ap (l.places s) (drop_all i xs h) ∙ l.none s)) ∙ before
