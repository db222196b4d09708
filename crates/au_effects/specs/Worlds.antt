-- What actions change: the names of frames, what boxes and buffers hold, and what is told of it all.
use Rattle.std.specs.Prelude.{ℕ, ◌+◌, Bool, if◌then◌else◌, List, [], ◌∷◌, ◌++◌, length, slice_set, Option}
use Rattle.std.specs.Prelude.{Some, None}
use Rattle.au_effects.specs.Values.{Value}

-- What is told of a run, in the order in which it happens. A birth has its number, its type, which is a B,
-- and the module in whose text it stands.
pub data Deed (B : Type 0) : Type 0 where
  born : (id : ℕ) (of : B) (home : List ℕ) → Deed B
  consumed : (id : ℕ) → Deed B
  opened : (borrow : ℕ) → Deed B
  used : (borrow : ℕ) → Deed B
  closed : (borrow : ℕ) → Deed B

-- what there is of a birth besides its value: nothing, the content of a box, or the elements of a buffer
pub data Held (T : Type 0) : Type 0 where
  nothing : Held T
  content : Value T → Held T
  elements : List (Value T) → Held T

-- The values of the names of each frame, by the number of the frame, which is how many are below it, and
-- the number of the name; what there is of each birth, by its number; the number of the next borrow;
-- whether deeds are kept; and the deeds that were kept.
pub record World (T B : Type 0) : Type 0 where
  pub frames : List (List (Option (Value T)))
  pub births : List (Held T)
  pub borrows : ℕ
  pub keeps : Bool
  pub deeds : List (Deed B)

-- one more deed
abbrev pub tells : {T B : Type 0} → Deed B → World T B → World T B
tells deed world = record world { deeds = if world.keeps then world.deeds ++ deed ∷ [] else world.deeds }

-- one more birth, with what there is of it
abbrev pub bears : {T B : Type 0} → B → List ℕ → Held T → World T B → World T B
bears of home held world =
    tells (born (length world.births) of home) (record world { births = world.births ++ held ∷ [] })

-- nothing is left of a birth but its number
abbrev pub ends : {T B : Type 0} → ℕ → World T B → World T B
ends id world = tells (consumed id) (record world { births = slice_set world.births id nothing })

-- a value is consumed that may have a birth
abbrev pub spends : {T B : Type 0} → Option ℕ → World T B → World T B
spends None world = world
spends (Some id) world = tells (consumed id) world

-- one more borrow
abbrev pub opens : {T B : Type 0} → World T B → World T B
opens world = tells (opened world.borrows) (record world { borrows = world.borrows + 1 })

-- borrows are closed, in this order
abbrev pub closes : {T B : Type 0} → List ℕ → World T B → World T B
closes [] world = world
closes (borrow ∷ rest) world = closes rest (tells (closed borrow) world)
