-- What holds of every run.
use Rattle.std.specs.Prelude.{◌≡◌, ℕ, ◌+◌, ◌≤◌, Bool, true, false, List, ◌++◌, Option}
use Rattle.au_meaning.specs.Meanings.{call_at, mean}
use Rattle.au_meaning.specs.Ticks.{Out, gives, aborts, cut, no_rule}
use Rattle.au_meaning.specs.Views.{Function}
use Rattle.au_meaning.specs.Worlds.{Value, World, Ending, exit, abort, running, stuck}

-- a list is the beginning of another, and the end of another
abbrev pub Begins : {A : Type 0} → List A → List A → Type 0
Begins xs ys = (more : List _) × (ys ≡ xs ++ more)

abbrev pub Ends : {A : Type 0} → List A → List A → Type 0
Ends xs ys = (before : List _) × (ys ≡ before ++ xs)

-- What is seen in a world is the beginning of what is seen in another: its output and its events begin those
-- of the other, and what the other leaves of the input ends what it leaves.
pub record Continues (first later : World) : Type 0 where
  pub output : Begins first.output later.output
  pub events : Begins first.store.deeds later.store.deeds
  pub input : Ends later.left first.left

-- whether a run has ended, or is stuck
abbrev pub is_over : Ending → Bool
is_over (exit success) = true
is_over (abort fault) = true
is_over running = false
is_over stuck = true

-- how many ticks an action leaves
abbrev pub left_in : {A : Type 0} → Out A → ℕ
left_in (gives a world left) = left
left_in (aborts fault world left) = left
left_in (cut world) = 0
left_in (no_rule world left) = left

module _ (I T C : Type 0) where
  -- A program that has more ticks goes on from what it did with fewer.
  abbrev pub MoreTicksTellMore : Type 0
  MoreTicksTellMore =
      (functions : I → Option (Function I T C)) (entry : I) (input : List ℕ) (ticks more : ℕ)
      → Continues (mean functions entry input ticks).world (mean functions entry input (ticks + more)).world

  -- A program that has ended with some ticks does the same with more.
  abbrev pub EndingsStay : Type 0
  EndingsStay =
      (functions : I → Option (Function I T C)) (entry : I) (input : List ℕ) (ticks more : ℕ)
      → is_over (mean functions entry input ticks).ending ≡ true
      → mean functions entry input (ticks + more) ≡ mean functions entry input ticks

  -- No call leaves more ticks than it was given.
  abbrev pub TicksAreSpent : Type 0
  TicksAreSpent =
      (functions : I → Option (Function I T C)) (depth : ℕ) (one : I) (args : List Value) (world : World)
      (ticks : ℕ) → left_in (call_at functions depth one args world ticks) ≤ ticks
