-- The parts of values: what the fields of a path lead to.
use Rattle.std.specs.Prelude.{ℕ, zero, suc, List, [], ◌∷◌, Option, Some, None}
use Rattle.au_effects.specs.Values.{Value, Fields, made, no_fields, field_then}

-- the field of a number
abbrev pub nth_field : {T : Type 0} → ℕ → Fields T → Option (Value T)
nth_field index no_fields = None
nth_field zero (field_then value rest) = Some value
nth_field (suc index) (field_then value rest) = nth_field index rest

-- the same of a value: only one of a record or a union has fields
abbrev pub field : {T : Type 0} → ℕ → Value T → Option (Value T)
field index (made tag birth fields) = nth_field index fields
field index other = None

-- what comes of a value, if there is one
abbrev pub along : {A B : Type 0} → Option A → (A → Option B) → Option B
along None go = None
along (Some one) go = go one

-- the part of a value at the end of a path, if it is there
abbrev pub part : {T : Type 0} → List ℕ → Value T → Option (Value T)
part [] value = Some value
part (index ∷ path) value = along (field index value) (part path)

-- fields of which one is changed
abbrev pub with_nth : {T : Type 0} → ℕ → (Value T → Value T) → Fields T → Fields T
with_nth index change no_fields = no_fields
with_nth zero change (field_then value rest) = field_then (change value) rest
with_nth (suc index) change (field_then value rest) = field_then value (with_nth index change rest)

-- a value of which one field is changed
abbrev pub with_field : {T : Type 0} → ℕ → (Value T → Value T) → Value T → Value T
with_field index change (made tag birth fields) = made tag birth (with_nth index change fields)
with_field index change other = other

-- a value whose part at the end of a path is another, where that part is there
abbrev pub with_part : {T : Type 0} → List ℕ → Value T → Value T → Value T
with_part [] new value = new
with_part (index ∷ path) new value = with_field index (with_part path new) value
