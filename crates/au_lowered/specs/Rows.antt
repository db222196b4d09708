-- What it means that written code does what an action of the meaning does: for expressions, for arguments,
-- and for what is done with values that were pushed.
use Rattle.std.specs.Prelude.{◌≡◌, ℕ, ◌≤◌, suc, List, ◌∷◌, ◌++◌, length, reverse, Option}
use Rattle.au_lowered.specs.Drafts.{Draft, Written}
use Rattle.au_lowered.specs.Standing.{Stands}
use Rattle.au_meaning.specs.Ticks.{Action}
use Rattle.au_meaning.specs.Worlds.{Value}
use Rattle.au_lowered.specs.Scopes.{Entry}
use Rattle.au_lowered.specs.Frames.{Wide, Agree, Frame, spot, world}
use Rattle.au_lowered.specs.Sides.{Coding, Both, Names, Slots, Common, meant, all_meant}
use Rattle.au_lowered.specs.Runs.{Aim, aim_at, Sim}

module _ (by : Coding) (f : Frame by) (get : ℕ → Option Draft)
    (depth : ℕ) (wide : Wide) (room : ℕ) (scope : List (Entry by))
  where
    -- a value is pushed
    abbrev pub value_aim : ℕ → List (Both by) → Aim by Value (Both by)
    value_aim q ops = aim_at (meant by) (λ v names slots. Agree by f wide room scope names slots)
        (λ v slots c. spot by f q (v ∷ ops) slots c)

    -- values are pushed, one after another
    abbrev pub values_aim : ℕ → ℕ → List (Both by) → Aim by (List Value) (List (Both by))
    values_aim count q ops = aim_at (all_meant by)
        (λ vs names slots. (length vs ≡ count) × Agree by f wide room scope names slots)
        (λ vs slots c. spot by f q (reverse vs ++ ops) slots c)

    -- an expression
    pub record Gives (write : Written) (m : Action Value) : Type 0 where
      pub runs : (p q : ℕ) (ops : List (Both by)) (names : Names) (slots : Slots) (c : Common by) (n : ℕ)
          → Stands get write p q → Agree by f wide room scope names slots → n ≤ depth
          → Sim by f (value_aim q ops) 6 (spot by f p ops slots c) n (m (world by f names c) n)

    -- so many arguments
    pub record GivesAll (count : ℕ) (write : Written) (m : Action (List Value)) : Type 0 where
      pub runs : (p q : ℕ) (ops : List (Both by)) (names : Names) (slots : Slots) (c : Common by) (n : ℕ)
          → Stands get write p q → Agree by f wide room scope names slots → n ≤ depth
          → Sim by f (values_aim count q ops) 0 (spot by f p ops slots c) n (m (world by f names c) n)

    -- what is done with one value, with two, and with values, behind a tick
    pub record OnOne (write : Written) (go : Value → Action Value) : Type 0 where
      pub runs : (p q : ℕ) (x : Both by) (ops : List (Both by)) (names : Names) (slots : Slots) (c : Common
          by) (l : ℕ)
          → Stands get write p q → Agree by f wide room scope names slots → suc l ≤ depth
          → Sim by f (value_aim q ops) 0 (spot by f p (x ∷ ops) slots c) (suc l) (go (meant by x) (world by f
          names c) l)

    pub record OnTwo (write : Written) (go : Value → Value → Action Value) : Type 0 where
      pub runs : (p q : ℕ) (x y : Both by) (ops : List (Both by)) (names : Names) (slots : Slots) (c : Common
          by) (l : ℕ)
          → Stands get write p q → Agree by f wide room scope names slots → suc l ≤ depth
          → Sim by f (value_aim q ops) 6 (spot by f p (y ∷ x ∷ ops) slots c) (suc l)
          (go (meant by x) (meant by y) (world by f names c) l)

    pub record OnAll (count : ℕ) (write : Written) (go : List Value → Action Value) : Type 0 where
      pub runs : (p q : ℕ) (vs ops : List (Both by)) (names : Names) (slots : Slots) (c : Common by) (l : ℕ)
          → length vs ≡ count → Stands get write p q → Agree by f wide room scope names slots → suc l ≤ depth
          → Sim by f (value_aim q ops) 6 (spot by f p (reverse vs ++ ops) slots c) (suc l)
          (go (all_meant by vs) (world by f names c) l)
