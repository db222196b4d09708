-- How the names of a frame stand, by how the open borrow statements hold the variables in scope, and by which
-- are consumed.
use Rattle.std.specs.Prelude.{ℕ, ◌==◌, Bool, true, false, [], ◌∷◌, if◌then◌else◌}
use Rattle.au_lives.specs.Lives as life
use Rattle.au_memory.specs.Forests.{Hold, empty, ready, shut, watched}
use Rattle.au_meaning.specs.Names.{Scope}
use Rattle.au_running_lives.specs.Lives.{Standing}

-- How the borrow statements on a variable hold it, by how its name stands where it isn't consumed. An empty
-- name may be met as little as one that is lent to write.
abbrev pub hold_of : Hold → life.Hold
hold_of empty = life.write_lent
hold_of ready = life.unlent
hold_of (shut z) = life.write_lent
hold_of (watched tokens) = life.read_lent

-- a variable that is consumed leaves its name empty
abbrev pub left : Bool → Hold → Hold
left true h = empty
left false h = h

-- a variable in scope is of this number
abbrev pub is_named : ℕ → Scope → Bool
is_named k [] = false
is_named k (x ∷ scope) = if x.number == k then true else is_named k scope

-- A name in scope is empty where its variable is consumed, and else stands as the open borrow statements on
-- it have left it; every other name is empty.
abbrev pub standing : Scope → (ℕ → Hold) → (ℕ → Bool) → Standing
standing scope lent spent k = if is_named k scope then left (spent k) (lent k) else empty
