-- What is reached from some starts, as a list that is found breadth first, once over any elements: `same`
-- is a test of sameness, and `next` gives what follows an element, in order.
use Rattle.std.specs.Prelude.{◌≡◌, Bool, true, false, ◌||◌, List, [], ◌∷◌, ◌++◌}

module _ {A : Type 0} (same : A → A → Bool) where
  -- a test of sameness says of two elements that they are the same exactly where they are equal
  pub record TellsSame : Type 0 where
    pub agrees : (x y : A) → same x y ≡ true → x ≡ y
    pub itself : (x : A) → same x x ≡ true

  -- whether an element stands in a list
  abbrev pub has : List A → A → Bool
  has [] x = false
  has (k ∷ ks) x = same x k || has ks x

  -- an element stands in a list
  abbrev pub Has : List A → A → Type 0
  Has ks x = has ks x ≡ true

  -- a list with an element at its end, if the list doesn't have it yet
  abbrev pub put_new : Bool → List A → A → List A
  put_new true ks x = ks
  put_new false ks x = ks ++ x ∷ []

  -- a list with more elements at its end in their order, each once
  abbrev pub adds : List A → List A → List A
  adds ks [] = ks
  adds ks (x ∷ xs) = adds (put_new (has ks x) ks x) xs

module _ {A : Type 0} (next : A → List A) where
  -- what follows the elements of a list, in order
  abbrev pub all_next : List A → List A
  all_next [] = []
  all_next (k ∷ ks) = next k ++ all_next ks

module _ {A : Type 0} (same : A → A → Bool) (next : A → List A) (starts : List A) where
  -- an element is reached from the starts: it is one of them, or it follows one that is reached
  pub data Reached : A → Type 0 where
    start : (x : A) → Has same starts x → Reached x
    follows : (k x : A) → Reached k → Has same (next k) x → Reached x

  -- A list is that of what is reached, breadth first: it is the starts, and then what follows its own
  -- elements in their order, each once; and it has nothing that isn't reached.
  pub record Lists (ks : List A) : Type 0 where
    pub order : ks ≡ adds same [] (starts ++ all_next next ks)
    pub reached : (x : A) → Has same ks x → Reached x
