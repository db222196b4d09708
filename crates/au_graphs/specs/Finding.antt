-- The walk by keys, and what the code holds of it.
use Rattle.std.specs.Prelude.{◌≡◌, ℕ, List, map, Bool, Option, Result, Ok, Err, Vec}
use Rattle.std.specs.Str.{bytes_eq}
use Rattle.std.specs.Global.{Global}
use Rattle.au_base.specs.declared.limits.Limit.{Limit}
use Rattle.au_graphs.specs.declared.faults.WalkFault.{WalkFault}
use Rattle.au_graphs.specs.declared.faults.WalkFault.TheVariants as faults
use Rattle.au_graphs.specs.declared.finding.Finds.{Finds}
use Rattle.au_graphs.specs.Reached.{has, Lists}
use Rattle.au_graphs.specs.Walks.{Walked, IsWithin, Refused, put_within, adds_within, listed}

-- what a function returned, seen by `view`, is this answer, unless memory ran out
abbrev pub Gives : {X A : Type 0} → (X → A) → Result X WalkFault → Result A Limit → Type 0
Gives view (Ok x) answer = answer ≡ Ok (view x)
Gives view (Err (faults.Limit limit)) answer = answer ≡ Err limit
Gives view (Err faults.Memory) answer = Unit {0}

-- the numbers of a key
abbrev pub numbers : Vec ℕ Global → List ℕ
numbers key = key.items

module _ {I A : Type 0} (see : I → A) where
  -- the elements that were found
  abbrev pub found_in : Finds I → List A
  found_in finds = map see finds.list.items

  -- the keys are those of the elements
  abbrev pub IsKeyed : (A → List ℕ) → Finds I → Type 0
  IsKeyed key_of finds = map numbers finds.keys.keys ≡ map key_of (found_in finds)

module _ {A : Type 0} (key_of : A → List ℕ) where
  -- whether two elements have one key
  abbrev pub by_key : A → A → Bool
  by_key a b = bytes_eq (key_of a) (key_of b)

  module _ (told_of : A → Option Limit) (full : Limit) (most : ℕ) where
    -- an element that is put at the end of a list, if it isn't there yet
    abbrev pub puts_to : List A → A → Walked A Limit
    puts_to list item = put_within by_key told_of full most (has by_key list item) list item

    -- elements that are put there
    abbrev pub adds_to : List A → List A → Walked A Limit
    adds_to = adds_within by_key told_of full most

    -- the walk
    abbrev pub walks : (A → List A) → List A → Walked A Limit
    walks = listed by_key told_of full most

module _ {X A : Type 0} where
  -- where the list of what is reached passes no limit, it is what a function returned, unless memory ran out
  abbrev pub Finds_all : (X → List A) → Result X WalkFault → (A → A → Bool) → (A → Option Limit) → ℕ
      → (A → List A) → List A → Type 0
  Finds_all view result same told_of most next starts =
      (ks : List A) → Lists same next starts ks → IsWithin same told_of most ks → Gives view result (Ok ks)

  -- a limit that a function told is that of the first element that passes one, breadth first
  abbrev pub Refuses : Result X WalkFault → (A → A → Bool) → (A → Option Limit) → Limit → ℕ → (A → List A)
      → List A → Type 0
  Refuses (Err (faults.Limit limit)) same told_of full most next starts =
      Refused same told_of full most next starts limit
  Refuses result same told_of full most next starts = Unit {0}
