-- Values, worlds and answers whose texts, places and types are changed into others.
use Rattle.std.specs.Prelude.{List, map, Option}
use Rattle.au_effects.specs.Values.{Value, Fields, Place, unit, truth, number, text, made, reference, box}
use Rattle.au_effects.specs.Values.{buffer, terminal, root, no_fields, field_then}
use Rattle.au_effects.specs.Worlds.{World, Held, Deed, nothing, content, elements, born, consumed, opened}
use Rattle.au_effects.specs.Worlds.{used, closed}
use Rattle.au_effects.specs.Answers.{Fault, arithmetic, called, not_empty, empty, out_of_range, Result, value}
use Rattle.au_effects.specs.Answers.{fault, no_rule, Answer, gives, writes, waits, aborts, none}

-- what texts and places are changed into
pub record Change (T S : Type 0) : Type 0 where
  pub text : T → S
  pub place : Place → Place

-- why a program aborts
abbrev pub fault_to : {T S : Type 0} → (T → S) → Fault T → Fault S
fault_to f arithmetic = arithmetic
fault_to f (called t) = called (f t)
fault_to f not_empty = not_empty
fault_to f empty = empty
fault_to f out_of_range = out_of_range

module _ {T S : Type 0} (f : Change T S) where
  abbrev mutual
    -- a value
    pub value_to : Value T → Value S
    value_to unit = unit
    value_to (truth b) = truth b
    value_to (number kind z) = number kind z
    value_to (text t) = text (f.text t)
    value_to (made tag birth fields) = made tag birth (fields_to fields)
    value_to (reference borrow place) = reference borrow (f.place place)
    value_to (box birth) = box birth
    value_to (buffer birth) = buffer birth
    value_to (terminal birth) = terminal birth
    value_to (root birth) = root birth

    pub fields_to : Fields T → Fields S
    fields_to no_fields = no_fields
    fields_to (field_then one rest) = field_then (value_to one) (fields_to rest)

  -- what there is of a birth
  abbrev pub held_to : Held T → Held S
  held_to nothing = nothing
  held_to (content one) = content (value_to one)
  held_to (elements values) = elements (map value_to values)

  -- what an operation comes to
  abbrev pub result_to : Result T → Result S
  result_to (value one) = value (value_to one)
  result_to (fault why) = fault (fault_to f.text why)
  result_to no_rule = no_rule

-- an event
abbrev pub deed_to : {B D : Type 0} → (B → D) → Deed B → Deed D
deed_to g (born id of home) = born id (g of) home
deed_to g (consumed id) = consumed id
deed_to g (opened borrow) = opened borrow
deed_to g (used borrow) = used borrow
deed_to g (closed borrow) = closed borrow

module _ {T S B D : Type 0} (f : Change T S) (g : B → D) (frames : List (List (Option (Value S)))) where
  -- a world, with these frames in place of its own
  abbrev pub world_to : World T B → World S D
  world_to world = record {
    frames = frames;
    births = map (held_to f) world.births;
    borrows = world.borrows;
    keeps = world.keeps;
    deeds = map (deed_to g) world.deeds;
  }

  -- what a shipped call comes to
  abbrev pub answer_to : Answer T B → Answer S D
  answer_to (gives one world) = gives (value_to f one) (world_to world)
  answer_to (writes bytes world) = writes bytes (world_to world)
  answer_to waits = waits
  answer_to (aborts why world) = aborts (fault_to f.text why) (world_to world)
  answer_to none = none
