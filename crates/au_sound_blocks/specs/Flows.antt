-- How a running frame stands between statements, and how statements leave it.
use Rattle.std.specs.Prelude.{◌≡◌, ◌⊎◌, ℕ, ◌<◌, ◌≤◌, Bool, List, [], ◌∷◌, ◌++◌, map, Option}
use Rattle.au_type_texts.specs.Types.{ClosedType}
use Rattle.au_types.specs.Types.{Meaning}
use Rattle.au_memory.specs.Forests.{Made, empty}
use Rattle.au_memory.specs.Loans.{Types}
use Rattle.au_sound_expressions.specs.Orders.{Act, Lying, is_active}
use Rattle.au_sound_expressions.specs.Frames.{Frame}
use Rattle.au_meaning.specs.Statements.{Flow, falls, returns}
use Rattle.au_meaning.specs.Worlds.{Value, World}
use Rattle.au_sound_expressions.specs.Good.{IsIn, lying_in}
use Rattle.au_sound_expressions.specs.Held.{Permits}
use Rattle.au_sound_expressions.specs.Blocks.{IsFine, Names}
use Rattle.au_sound_expressions.specs.Lives.{IsOver, Standing, freed_each}
use Rattle.au_sound_expressions.specs.Safe.{Waits, frame}

-- the tokens of a frame's own
abbrev pub tokens : List Act → List ℕ
tokens own = map (λ (a : Act). a.token) own

-- These borrows lay open when the oldest of a frame's own tokens began; or they lie open now, where it has
-- none.
abbrev pub IsBottom : List Act → (lying base : Lying) → Type 0
IsBottom [] lying base = lying ≡ base
IsBottom (a ∷ own) lying base = IsBottom own a.base base

-- what names may hold, the way in which the function was called, which of the frame's names hold what may be
-- dropped, the type that its body returns, the tokens that were active when it began and the borrows that lay
-- open then, the frames below, and how many names it has
module _ (types : Types) (owner : ClosedType → Option (List ℕ)) {V W : Type 0} (permits : Permits V W)
    (key : V) (loose : ℕ → Bool) (result : Meaning) (below : List Act) (base : Lying) (fs : List Frame)
    (sizes : List ℕ) (size : ℕ) where
  -- The frame goes on with tokens of its own: its names from a number on are empty, each waits for tokens
  -- that are active, and each is empty or fine: it may be dropped where that is said of it, and its type is
  -- permitted.
  pub record Going (own : List Act) (number : ℕ) (hold : Standing) (names : Names) (under : Made)
      (w : World) : Type 0
    where
      pub waits : (k : ℕ) → Waits (is_active (own ++ below)) (hold k)
      pub clear : (k : ℕ) → number ≤ k → hold k ≡ empty
      pub fine : (k : ℕ) → (hold k ≡ empty) ⊎ IsFine types loose permits key k (names k)
      pub bottom : IsBottom own (lying_in w) base
      pub state : IsIn types owner (own ++ below) (frame hold names ∷ fs) sizes under w

  -- A statement fell through: names below a number have the types that they had, those from another on are
  -- empty, and this holds of how names stand and of their types.
  pub record Fell (own : List Act) (kept next : ℕ) (before : Names) (A : Standing → Type 0) (R : Names
      → Type 0)
      (under : Made) (w : World) : Type 0 where
    pub hold : Standing
    pub names : Names
    pub ahead : A hold
    pub runs : R names
    pub same : (k : ℕ) → k < kept → names k ≡ before k
    pub going : Going own next hold names under w

  -- It returned a value: tokens of the frame's own are active, and each name is over when they have ended.
  pub record Returned (under : Made) (v : Value) (w : World) : Type 0 where
    pub newest : Act
    pub own : List Act
    pub hold : Standing
    pub names : Names
    pub over : (k : ℕ) → IsOver (loose k) (freed_each (tokens (newest ∷ own)) (hold k))
    pub going : Going (newest ∷ own) size hold names ((v, result) ∷ under) w

  abbrev pub Flows : List Act → (kept next : ℕ) → Names → (Standing → Type 0) → (Names → Type 0) → Made
      → Flow → World
      → Type 0
  Flows own kept next before A R under falls w = Fell own kept next before A R under w
  Flows own kept next before A R under (returns v) w = Returned under v w
