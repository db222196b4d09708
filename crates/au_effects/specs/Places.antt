-- Places: what they hold, and what is put into them.
use Rattle.std.specs.Prelude.{ℕ, List, [], Option, Some, None, slice_get, slice_set}
use Rattle.au_effects.specs.Values.{Value, Base, Place, name_of, content_of}
use Rattle.au_effects.specs.Parts.{along, part, with_part}
use Rattle.au_effects.specs.Worlds.{World, Held, nothing, content, elements}

-- the content of a box
abbrev pub content_in : {T : Type 0} → Held T → Option (Value T)
content_in nothing = None
content_in (content value) = Some value
content_in (elements values) = None

-- what a name holds, if it is there and holds a value
abbrev pub name_at : {T B : Type 0} → ℕ → ℕ → World T B → Option (Value T)
name_at frame name world =
    along (slice_get world.frames frame) (λ names. along (slice_get names name) (λ value. value))

-- what the beginning of a place holds, if it is there
abbrev pub base_at : {T B : Type 0} → Base → World T B → Option (Value T)
base_at (name_of frame name) world = name_at frame name world
base_at (content_of birth) world = along (slice_get world.births birth) content_in

-- what a place holds, if it is there
abbrev pub at : {T B : Type 0} → Place → World T B → Option (Value T)
at place world = along (base_at place.base world) (part place.path)

-- the names of a frame with one of them changed
abbrev pub with_name : {T : Type 0} → ℕ → Option (Value T) → Option (List (Option (Value T)))
    → List (Option (Value T))
with_name name value None = []
with_name name value (Some names) = slice_set names name value

-- a name holds this value, or none
abbrev pub name_set : {T B : Type 0} → ℕ → ℕ → Option (Value T) → World T B → World T B
name_set frame name value world =
    record world {
      frames =
          slice_set world.frames frame (with_name name value (slice_get world.frames frame));
    }

-- the beginning of a place holds this value
abbrev pub base_set : {T B : Type 0} → Base → Value T → World T B → World T B
base_set (name_of frame name) value world = name_set frame name (Some value) world
base_set (content_of birth) value world =
    record world { births = slice_set world.births birth (content value) }

-- A place holds this value, and what it held before; none where it isn't there.
abbrev pub set_over : {T B : Type 0} → Place → Value T → World T B → Option (Value T)
    → Option (Value T × World T B)
set_over place new world None = None
set_over place new world (Some base) =
    along (part place.path base) (λ old. Some
    (old, base_set place.base (with_part place.path new base) world))

-- Nothing else is written where a value stands, but for the elements of buffers.
abbrev pub exchanged : {T B : Type 0} → Place → Value T → World T B → Option (Value T × World T B)
exchanged place new world = set_over place new world (base_at place.base world)
