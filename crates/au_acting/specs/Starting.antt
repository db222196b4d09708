-- How a run starts, and states that are one.
use Rattle.std.specs.Prelude.{◌≡◌, ◌⊎◌, ℕ, List, [], Option, None}
use Rattle.au_effects.specs.Values.{Base}
use Rattle.au_places.specs.Memories.{Memory}
use Rattle.au_types.specs.Types.{Meaning}
use Rattle.au_memory.specs.Forests.{Holds, Made, empty}
use Rattle.au_memory.specs.Loans.{Types}
use Rattle.au_borrows.specs.Orders.{Act}
use Rattle.au_borrows.specs.Told.{Told}
use Rattle.au_acting.specs.Safe.{IsSafe}

-- nothing is held anywhere
abbrev pub no_memory : Memory (List ℕ)
no_memory = record { at = λ base. None; elements = λ i. None }

-- nothing is told
abbrev pub nothing_told : {B : Type 0} → Told B
nothing_told = record { next_birth = 0; next_borrow = 0; lying = []; events = [] }

-- Such a state is as it should be, whatever types names are to have.
abbrev pub Starts : (B : Type 0) → Types → (B → Option (List ℕ)) → Type 0
Starts B types owner =
    (type : ℕ → ℕ → Meaning)
    → IsSafe types owner [] (λ frame x. empty) type [] no_memory (nothing_told {B = B})

module _ (B : Type 0) (types : Types) (owner : B → Option (List ℕ)) (acts : List Act) (hold : Holds)
    (type : ℕ → ℕ → Meaning) (under : Made) (m : Memory (List ℕ)) (w : Told B) where
  -- Two states are one where each name stands alike, each that isn't empty has one type, and memory holds
  -- the same.
  abbrev pub Agrees : Type 0
  Agrees =
      (others : Holds) (kinds : ℕ → ℕ → Meaning) (n : Memory (List ℕ))
      → ((frame x : ℕ) → hold frame x ≡ others frame x)
      → ((frame x : ℕ) → (hold frame x ≡ empty) ⊎ (type frame x ≡ kinds frame x))
      → ((base : Base) → m.at base ≡ n.at base) → ((i : ℕ) → m.elements i ≡ n.elements i)
      → IsSafe types owner acts hold type under m w → IsSafe types owner acts others kinds under n w
