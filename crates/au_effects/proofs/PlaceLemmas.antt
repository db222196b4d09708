-- What is put into places, and what is told.
use Rattle.std.proofs.Common.{◌≡◌, Option, Some, None, refl, ap, ◌∙◌}
use Rattle.std.specs.Option.{option_map}
use Rattle.au_effects.specs.Values.{Value, Base, Place, name_of, content_of}
use Rattle.au_effects.specs.Parts.{along, part, with_part}
use Rattle.au_effects.specs.Worlds.{World, Deed, tells}
use Rattle.au_effects.specs.Places.{base_at, base_set, set_over, exchanged}

-- what was given for another value, where a deed is told as well
abbrev pub pair_told : {T B : Type 0} → Deed B → Value T × World T B → Value T × World T B
pair_told deed pair = (pair.0, tells deed pair.1)

base_told : {T B : Type 0} (base : Base) (value : Value T) (deed : Deed B) (world : World T B)
    → base_set base value (tells deed world) ≡ tells deed (base_set base value world)
base_told (name_of frame name) value deed world = refl
base_told (content_of birth) value deed world = refl

there_told : {T B : Type 0} (place : Place) (new : Value T) (deed : Deed B) (world : World T B)
    (base : Option (Value T)) → set_over place new (tells deed world) base
    ≡ option_map (pair_told deed) (set_over place new world base)
there_told place new deed world None = refl
there_told {T} {B} place new deed world (Some base) = by_part (part place.path base)
  where
    -- by what stood there
    by_part : (old : Option (Value T))
        → along {A = Value T} {B = Value T × World T B} old
        (λ o. Some (o, base_set place.base (with_part place.path new base) (tells deed world)))
        ≡ option_map (pair_told deed) (along {A = Value T} {B = Value T × World T B} old
        (λ o. Some (o, base_set place.base (with_part place.path new base) world)))
    by_part None = refl
    by_part (Some old) =
        ap (λ (w : World T B). Some (old, w))
        (base_told place.base (with_part place.path new base) deed world)

at_told : {T B : Type 0} (base : Base) (deed : Deed B) (world : World T B)
    → base_at base (tells deed world) ≡ base_at base world
at_told (name_of frame name) deed world = refl
at_told (content_of birth) deed world = refl

-- What is told before a value is exchanged may as well be told behind that.
pub exchanged_told : {T B : Type 0} (place : Place) (new : Value T) (deed : Deed B) (world : World T B)
    → exchanged place new (tells deed world) ≡ option_map (pair_told deed) (exchanged place new world)
exchanged_told place new deed world =
    ap (set_over place new (tells deed world)) (at_told place.base deed world)
    ∙ there_told place new deed world (base_at place.base world)
