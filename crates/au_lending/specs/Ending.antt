-- The end of a token.
use Rattle.std.specs.Prelude.{◌≡◌, ℕ, ◌+◌, ◌≤◌, ◌==◌, Bool, true, false, if◌then◌else◌, List, [], ◌∷◌}
use Rattle.au_places.specs.Memories.{Memory}
use Rattle.au_places.specs.Places.{Id}
use Rattle.au_types.specs.Types.{Meaning}
use Rattle.au_memory.specs.Forests.{Core, Hold, Holds, Made, empty, ready, shut, watched, in_forest, in_list}
use Rattle.au_memory.specs.Loans.{Types, Table}

-- one token is off
abbrev pub without : ℕ → (ℕ → Bool) → ℕ → Bool
without z flags y = if z == y then false else flags y

-- the tokens of a list but for one
abbrev pub others_of : ℕ → List ℕ → List ℕ
others_of z [] = []
others_of z (y ∷ ys) = if z == y then others_of z ys else y ∷ others_of z ys

-- a name that is watched until these tokens end
abbrev pub left_watched : List ℕ → Hold
left_watched [] = ready
left_watched (y ∷ ys) = watched (y ∷ ys)

-- how a name stands when a token has ended
abbrev pub freed : ℕ → Hold → Hold
freed z empty = empty
freed z ready = ready
freed z (shut y) = if z == y then ready else shut y
freed z (watched tokens) = left_watched (others_of z tokens)

module _ (types : Types) (clock : ℕ) (scope act : ℕ → Bool) (hold : Holds) (type : ℕ → ℕ → Meaning)
    (under : Made) (s : Table) (m : Memory (List ℕ))
    (core : Core types clock scope act hold type under s m) where
  -- A token has ended: it is active no more, and no name is shut or watched for it; memory is as it was, and
  -- everything counts as it did.
  pub record TokenEnded (z : ℕ) : Type 0 where
    pub after : Core types clock (without z scope) (without z act) (λ frame x. freed z (hold frame x)) type
        under s m
    pub counts : (id : Id)
        → in_forest id after.top after.forest + in_list id after.trees
        ≡ in_forest id core.top core.forest + in_list id core.trees

  -- The newest token that is active may end so.
  abbrev pub TokensEnd : Type 0
  TokensEnd = (z : ℕ) → ((y : ℕ) → act y ≡ true → y ≤ z) → TokenEnded z
