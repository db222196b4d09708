-- A world whose deeds aren't kept: what actions do to it is what they do to the world whose deeds are kept,
-- but for the deeds.
use Rattle.std.proofs.Common.{◌≡◌, ℕ, false, List, [], ◌∷◌, Option, Some, None, refl, ap, ◌∙◌}
use Rattle.std.specs.Option.{option_map}
use Rattle.au_effects.specs.Values.{Value, Base, Place, name_of, content_of}
use Rattle.au_effects.specs.Parts.{along, part, with_part}
use Rattle.au_effects.specs.Worlds.{World, closed, tells, spends, closes}
use Rattle.au_effects.specs.Places.{base_at, base_set, set_over, exchanged}

-- the same world without deeds
abbrev pub hushed : {T B : Type 0} → World T B → World T B
hushed world = record world { keeps = false; deeds = [] }

abbrev pub pair_hushed : {T B : Type 0} → Value T × World T B → Value T × World T B
pair_hushed pair = (pair.0, hushed pair.1)

pub hushed_spends : {T B : Type 0} (birth : Option ℕ) (world : World T B)
    → spends birth (hushed world) ≡ hushed (spends birth world)
hushed_spends None world = refl
hushed_spends (Some id) world = refl

pub hushed_closes : {T B : Type 0} (borrows : List ℕ) (world : World T B)
    → closes borrows (hushed world) ≡ hushed (closes borrows world)
hushed_closes [] world = refl
hushed_closes (borrow ∷ rest) world = hushed_closes rest (tells (closed borrow) world)

hushed_base : {T B : Type 0} (base : Base) (value : Value T) (world : World T B)
    → base_set base value (hushed world) ≡ hushed (base_set base value world)
hushed_base (name_of frame name) value world = refl
hushed_base (content_of birth) value world = refl

hushed_there : {T B : Type 0} (place : Place) (new base : Value T) (world : World T B) (old : Option
    (Value T)) → along old (λ (o : Value T). Some (
      o,
      base_set place.base
          (with_part place.path new base) (hushed world),
    ))
    ≡ option_map pair_hushed (along old (λ (o : Value T). Some (
      o,
      base_set place.base
          (with_part place.path new base) world,
    )))
hushed_there place new base world None = refl
hushed_there {T} {B} place new base world (Some old) = ap (λ (w : World T B). Some (old, w))
    (hushed_base place.base (with_part place.path new base) world)

hushed_over : {T B : Type 0} (place : Place) (new : Value T) (world : World T B) (base : Option
    (Value T)) → set_over place new (hushed world) base
    ≡ option_map pair_hushed (set_over place new world base)
hushed_over place new world None = refl
hushed_over place new world (Some base) = hushed_there place new base world (part place.path base)

-- what a place holds doesn't depend on the deeds
pub hushed_at : {T B : Type 0} (base : Base) (world : World T B)
    → base_at base (hushed world) ≡ base_at base world
hushed_at (name_of frame name) world = refl
hushed_at (content_of birth) world = refl

pub hushed_exchanged : {T B : Type 0} (place : Place) (new : Value T) (world : World T B)
    → exchanged place new (hushed world) ≡ option_map pair_hushed (exchanged place new world)
hushed_exchanged place new world =
    ap (set_over place new (hushed world)) (hushed_at place.base world)
    ∙ hushed_over place new world (base_at place.base world)
