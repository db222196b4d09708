-- Laws of the definitions.
use Rattle.std.specs.Prelude.{◌≡◌, ℕ, List}
use Rattle.std.specs.Option.{option_map}
use Rattle.au_low.specs.Machines.{Low, LowWorld, Machine, frame_in, in_world, slots_filled}
use Rattle.au_stores.specs.Stores.{filled}

-- the machine whose slots are filled is the machine in the world whose frame is filled
abbrev pub FillingIsOfTheWorld : Type 0
FillingIsOfTheWorld = (slot : ℕ) (values : List Low) (m : Machine)
    → slots_filled slot values m
    ≡ option_map (λ (w : LowWorld). in_world w m) (filled (frame_in m) slot values m.world)
