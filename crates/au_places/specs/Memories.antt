-- What names, boxes and buffers hold, as functions; and what is written there.
use Rattle.std.specs.Prelude.{ℕ, zero, suc, ◌==◌, List, Option, option_map, if◌then◌else◌}
use Rattle.au_effects.specs.Parts.{along, part, with_part}
use Rattle.au_effects.specs.Values.{Base, Fields, Place, Value, no_fields, field_then}
use Rattle.au_places.specs.Places.{same_base}

-- A memory: the value of each name and of the content of each box, and the elements of each buffer.
pub record Memory (T : Type 0) : Type 0 where
  pub at : Base → Option (Value T)
  pub elements : ℕ → Option (List (Value T))

module _ {T : Type 0} where
  -- the fields of a value from a number on
  abbrev pub later : ℕ → Fields T → Fields T
  later zero parts = parts
  later (suc n) no_fields = no_fields
  later (suc n) (field_then value rest) = later n rest

  -- what a place holds
  abbrev pub held_at : Memory T → Place → Option (Value T)
  held_at m to = along (m.at to.base) (part to.path)

  -- a name, or a box, holds this value or none
  abbrev pub with_base : Base → Option (Value T) → Memory T → Memory T
  with_base base value m = record {
    at = λ other. if same_base base other then value else m.at other;
    elements = m.elements;
  }

  -- a buffer has these elements, or none, and is no more
  abbrev pub with_items : ℕ → Option (List (Value T)) → Memory T → Memory T
  with_items i items m = record {
    at = m.at;
    elements = λ other. if i == other then items else m.elements other;
  }

  -- what stands at a place is replaced
  abbrev pub written : Place → Value T → Memory T → Memory T
  written to new m = with_base to.base (option_map (with_part to.path new) (m.at to.base)) m
