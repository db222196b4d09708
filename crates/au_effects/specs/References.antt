-- What references do: where they lead, what is read and put behind them, and which borrows are open.
-- A reference is here the number of its borrow, and its place.
use Rattle.std.specs.Prelude.{ℕ, ◌-◌, List, ◌++◌, length, take, drop, Option, Some, None}
use Rattle.au_effects.specs.Values.{Value, Place, name_of, reference}
use Rattle.au_effects.specs.Parts.{along}
use Rattle.au_effects.specs.Places.{name_at, at, exchanged}
use Rattle.au_effects.specs.Worlds.{World, used, tells}

-- ---- where they lead

-- the reference that a value is, and the value that a reference is
abbrev pub reference_in : {T : Type 0} → Value T → Option (ℕ × Place)
reference_in (reference borrow place) = Some (borrow, place)
reference_in other = None

abbrev pub referring : {T : Type 0} → ℕ × Place → Value T
referring one = reference one.0 one.1

-- the place at the end of a path from a name of a frame, and from another place
abbrev pub name_along : ℕ → ℕ → List ℕ → Place
name_along frame name path = record { base = name_of frame name; path = path }

abbrev pub place_along : Place → List ℕ → Place
place_along place path = record { base = place.base; path = place.path ++ path }

-- a reference to the end of a path from what another refers to: it is of the same borrow
abbrev pub reference_along : ℕ × Place → List ℕ → ℕ × Place
reference_along one path = (one.0, place_along one.1 path)

-- the reference that a name of a frame holds
abbrev pub reference_at : {T B : Type 0} → ℕ → ℕ → World T B → Option (ℕ × Place)
reference_at frame name world = along (name_at frame name world) reference_in

-- ---- uses

-- What stands at the place of a reference is copied, if it is there, and the borrow is used.
abbrev pub read_behind : {T B : Type 0} → ℕ × Place → World T B → Option (Value T × World T B)
read_behind one world = along (at one.1 world) (λ value. Some (value, tells (used one.0) world))

-- The borrow of a reference is used, and its place, if it is there, gets another value for what it held.
abbrev pub put_behind : {T B : Type 0} → ℕ × Place → Value T → World T B → Option (Value T × World T B)
put_behind one new world = exchanged one.1 new (tells (used one.0) world)

-- ---- borrows

-- the reference of the next borrow, which is of a place
abbrev pub next_reference : {T B : Type 0} → Place → World T B → Value T
next_reference place world = reference world.borrows place

-- of open borrows, the newest first: the oldest so many, and those that are newer than these
abbrev pub oldest : {A : Type 0} → ℕ → List A → List A
oldest count borrows = drop (length borrows - count) borrows

abbrev pub newer : {A : Type 0} → ℕ → List A → List A
newer count borrows = take (length borrows - count) borrows
