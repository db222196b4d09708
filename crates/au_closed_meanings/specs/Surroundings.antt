-- The view of a closed tree: what its notes say, and what is known of the program round it.
use Rattle.std.specs.Prelude.{ℕ, Bool, true, false, List, [], map, Option, Some, None}
use Rattle.std.specs.Option.{option_map}
use Rattle.au_closed_trees.specs.ClosedNotes.{Callee, ClosedNote, instance, constructor, shipped}
use Rattle.au_closed_trees.specs.declared.notes.Literal.{Literal}
use Rattle.au_closed_trees.specs.declared.notes.Literal.TheVariants as literal
use Rattle.au_type_texts.specs.Types.{ClosedType}
use Rattle.au_effects.specs.Parts.{along}
use Rattle.au_effects.specs.Values as values
use Rattle.au_meaning.specs.Names.{field_of}
use Rattle.au_meaning.specs.Views as views
use Rattle.au_meaning.specs.Views.{Field, View, invokes, makes, ships}
use Rattle.au_meaning.specs.Worlds.{Value}
use Rattle.au_syntax.specs.Plain.{Bytes}
use Rattle.au_closed_meanings.specs.Shipped.{born, shipped_parameters}

-- ---- what notes say

-- whether the noted type is Free: only the note of a mention of a variable says so
abbrev pub is_free : ClosedNote → Bool
is_free note = noted_free note.free
  where
    noted_free : Option Bool → Bool
    noted_free None = false
    noted_free (Some free) = free

-- the value of a literal
abbrev pub literal_value : Literal → Value
literal_value (literal.Int kind z) = values.number kind z
literal_value (literal.Bool b) = values.truth b
literal_value literal.Unit = values.unit
literal_value (literal.Text text) = values.text text

-- the value of the constant that is mentioned
abbrev pub constant_noted : ClosedNote → Option Value
constant_noted note = option_map literal_value note.literal

-- ---- what is round a tree

-- What is known round a closed tree: the names of the parameters of the function of a number, the module in
-- whose text the tree stands, the number of the case of a type that a name means, the fields of the case of a
-- number, and whether a type is linear.
pub record Surroundings : Type 0 where
  pub parameters : ℕ → Option (List Bytes)
  pub home : Bytes
  pub tag : ClosedType → Bytes → Option ℕ
  pub fields : ClosedType → ℕ → Option (List Field)
  pub is_linear : ClosedType → Bool

-- the names of fields
abbrev pub field_names : List Field → List Bytes
field_names fields = map (λ (one : Field). one.name) fields

-- what a call does, where the names of its parameters are known
abbrev pub with_parameters : Option (List Bytes) → views.Act ℕ → Option (views.Callee ℕ)
with_parameters names act = option_map (λ (all : List Bytes). record { parameters = all; act = act }) names

-- fields, where they are known
abbrev pub known : Option (List Field) → List Field
known None = []
known (Some all) = all

module _ (round : Surroundings) where
  -- the fields of the case of a number, and none where there is no such case
  abbrev pub fields_in : ClosedType → ℕ → List Field
  fields_in of tag = known (round.fields of tag)

  -- the number and the type of the field of a name among them
  abbrev pub field_in : ClosedType → ℕ → Bytes → Option (ℕ × ClosedType)
  field_in of tag name = along (round.fields of tag) (field_of name)

  -- what a call does of whose expression this is the note
  abbrev pub call_noted : ClosedNote → Callee ℕ → Option (views.Callee ℕ)
  call_noted note (instance number) = with_parameters (round.parameters number) (invokes number)
  call_noted note (constructor of tag) =
      with_parameters (option_map field_names (round.fields of tag)) (makes of tag round.home)
  call_noted note (shipped call) = with_parameters (Some (shipped_parameters call))
      (ships call (born call note.of))

  -- the view of a tree with these surroundings
  abbrev pub view_in : View ℕ ClosedNote (Callee ℕ)
  view_in = record {
    type_of = λ note. Some note.of;
    is_free = is_free;
    callee = λ note c name. call_noted note c;
    constant = λ note name. constant_noted note;
    tag = round.tag;
    fields = round.fields;
    is_linear = round.is_linear;
  }
