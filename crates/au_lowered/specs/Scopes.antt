-- The variables in scope, each with the number that the meaning gives it and the slot that the code gives
-- it, and what it means that a frame's names and its slots hold the same for them.
use Rattle.std.specs.Prelude.{◌≡◌, ◌≢◌, ◌⊎◌, ℕ, ◌<◌, ◌≤◌, List, [], ◌∷◌, length, Option, Some, option_map}
use Rattle.std.specs.Prelude.{slice_get}
use Rattle.au_type_texts.specs.Types.{ClosedType}
use Rattle.au_meaning.specs.Names.{Scope}
use Rattle.au_meaning.specs.Worlds.{Value}
use Rattle.au_syntax.specs.Plain.{Bytes}
use Rattle.au_lowered.specs.Sides.{Coding, Named, Slotted, Both, meant, ran}

module _ (by : Coding) where
  -- A variable; or a slot that no variable has, which keeps a value.
  pub data Entry : Type 0 where
    variable : (name : Bytes) (number slot : ℕ) (of : Option ClosedType) → Entry
    kept : (slot : ℕ) (value : Both by) → Entry

  -- the scope of the meaning, and that of the code
  abbrev pub numbers_in : List Entry → Scope
  numbers_in [] = []
  numbers_in (variable name number slot of ∷ rest) = record { name = name; number = number; of = of } ∷
      numbers_in rest
  numbers_in (kept slot value ∷ rest) = numbers_in rest

  abbrev pub slots_in : List Entry → Scope
  slots_in [] = []
  slots_in (variable name number slot of ∷ rest) = record { name = name; number = slot; of = of } ∷ slots_in
      rest
  slots_in (kept slot value ∷ rest) = slots_in rest

  -- a name and a slot hold the same
  pub record Same (number slot : ℕ) (names : Named) (slots : Slotted) : Type 0 where
    pub both : Option (Both by)
    pub in_name : slice_get names number ≡ Some (option_map (meant by) both)
    pub in_slot : slice_get slots slot ≡ Some (option_map (ran by) both)

  abbrev pub Held : List Entry → Named → Slotted → Type 0
  Held [] names slots = Unit {0}
  Held (variable name number slot of ∷ rest) names slots = Same number slot names slots
      × Held rest names slots
  Held (kept slot value ∷ rest) names slots =
      (slice_get slots slot ≡ Some (Some (ran by value))) × Held rest names slots

  -- no variable has this number
  abbrev pub NumberFree : ℕ → List Entry → Type 0
  NumberFree n [] = Unit {0}
  NumberFree n (variable name number slot of ∷ rest) = (number ≢ n) × NumberFree n rest
  NumberFree n (kept slot value ∷ rest) = NumberFree n rest

  -- nothing is in this slot
  abbrev pub SlotFree : ℕ → List Entry → Type 0
  SlotFree n [] = Unit {0}
  SlotFree n (variable name number slot of ∷ rest) = (slot ≢ n) × SlotFree n rest
  SlotFree n (kept slot value ∷ rest) = (slot ≢ n) × SlotFree n rest

  -- no two have one number or one slot, and each number has its slot
  abbrev pub Distinct : List Entry → Type 0
  Distinct [] = Unit {0}
  Distinct (variable name number slot of ∷ rest) = NumberFree number rest × SlotFree slot rest
      × (by.slot number ≡ slot) × Distinct rest
  Distinct (kept slot value ∷ rest) = SlotFree slot rest × Distinct rest

  -- numbers and slots are below these
  abbrev pub Under : ℕ → ℕ → List Entry → Type 0
  Under n s [] = Unit {0}
  Under n s (variable name number slot of ∷ rest) = (number < n) × (slot < s) × Under n s rest
  Under n s (kept slot value ∷ rest) = (slot < s) × Under n s rest

  -- what is in scope where the next number and the next slot are these
  pub record Scoped (number slot : ℕ) (scope : List Entry) : Type 0 where
    pub distinct : Distinct scope
    pub under : Under number slot scope

  -- a variable has this number
  abbrev pub InScope : ℕ → List Entry → Type 0
  InScope n [] = ⊥
  InScope n (variable name number slot of ∷ rest) = (number ≡ n) ⊎ InScope n rest
  InScope n (kept slot value ∷ rest) = InScope n rest

  -- variables have numbers from this one on
  abbrev pub From : ℕ → List Entry → Type 0
  From n [] = Unit {0}
  From n (variable name number slot of ∷ rest) = (n ≤ number) × From n rest
  From n (kept slot value ∷ rest) = From n rest

  -- a name that holds a value is that of a variable
  abbrev pub Only : List Entry → Named → Type 0
  Only scope names = (n : ℕ) (value : Value) → slice_get names n ≡ Some (Some value) → InScope n scope

  -- A frame with so many names and slots holds what is in scope, and nothing else in its names.
  pub record Stood (count room : ℕ) (scope : List Entry) (names : Named) (slots : Slotted) : Type 0 where
    pub names_are : length names ≡ count
    pub slots_are : length slots ≡ room
    pub held : Held scope names slots
    pub only : Only scope names

  -- A frame that waits: how many names and slots it has, and what is in scope there.
  pub record Level : Type 0 where
    pub count : ℕ
    pub room : ℕ
    pub scope : List Entry
    pub distinct : Distinct scope

  abbrev pub Stood_at : Level → Named → Slotted → Type 0
  Stood_at level names slots = Stood level.count level.room level.scope names slots

  -- frames hold what is in scope in them, one after another
  abbrev pub Levels : List Level → List Named → List Slotted → Type 0
  Levels [] [] [] = Unit {0}
  Levels [] [] (slots ∷ more) = ⊥
  Levels [] (names ∷ rest) more = ⊥
  Levels (level ∷ levels) [] more = ⊥
  Levels (level ∷ levels) (names ∷ rest) [] = ⊥
  Levels (level ∷ levels) (names ∷ rest) (slots ∷ more) = Stood_at level names slots
      × Levels levels rest more
