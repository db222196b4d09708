-- What is done to the world: names, references and borrows, values with births, and shipped calls.
use Rattle.std.specs.Prelude.{ℕ, zero, suc, ◌+◌, ◌-◌, ◌==◌, Bool, true, false, List, [], ◌∷◌, ◌++◌, length}
use Rattle.std.specs.Prelude.{map, replicate, take, Option, Some, None, slice_get, if◌then◌else◌}
use Rattle.std.specs.List.{find}
use Rattle.std.specs.Str.{bytes_eq}
use Rattle.au_type_texts.specs.Types.{ClosedType}
use Rattle.au_effects.specs.Answers as answer
use Rattle.au_effects.specs.Calls.{byte_read, of_one, shipped}
use Rattle.au_effects.specs.Cases.{told_apart}
use Rattle.au_effects.specs.Numbers.{wrapped_around, converted_value}
use Rattle.au_effects.specs.Parts.{along}
use Rattle.au_effects.specs.Places.{at, exchanged, name_at, name_set}
use Rattle.au_effects.specs.References.{name_along, reference_along, reference_at, read_behind, put_behind}
use Rattle.au_effects.specs.References.{next_reference, oldest, newer}
use Rattle.au_effects.specs.Values as values
use Rattle.au_effects.specs.Values.{Place, made, listed, fields_of, no_fields, field_then}
use Rattle.au_effects.specs.Worlds.{nothing, bears, spends, opens, closes}
use Rattle.au_shipped.specs.declared.prims.ShippedCall.{ShippedCall}
use Rattle.au_shipped.specs.declared.prims.ShippedCall.TheVariants as prim
use Rattle.au_syntax.specs.declared.expressions.BorrowMode.{BorrowMode}
use Rattle.au_syntax.specs.declared.expressions.BorrowMode.TheVariants as mode
use Rattle.au_syntax.specs.declared.types.Access.{Access}
use Rattle.au_syntax.specs.declared.types.Access.TheVariants as access
use Rattle.au_syntax.specs.Plain.{Bytes}
use Rattle.au_syntax.specs.Types.{Bound}
use Rattle.au_meaning.specs.Names.{field_of}
use Rattle.au_meaning.specs.Ticks.{Action, gives, aborts, no_rule, pure, stuck, asks, does, takes, comes}
use Rattle.au_meaning.specs.Ticks.{◌>>=◌, ◌>>◌}
use Rattle.au_meaning.specs.Views.{Field}
use Rattle.au_meaning.specs.Worlds.{Value, Store, Borrow, World}

-- ---- names of the running frame

-- another store
abbrev pub in_store : Store → World → World
in_store store world = record world { store = store }

-- the number of the running frame, which is the last one
abbrev pub frame_in : World → ℕ
frame_in world = length world.store.frames - 1

-- a name of the running frame holds this value, or none
abbrev pub with_value : ℕ → Option Value → World → World
with_value name value world = in_store (name_set (frame_in world) name value world.store) world

-- the place at the end of a path from a name of the running frame
abbrev pub place_of : ℕ → List ℕ → World → Place
place_of name path world = name_along (frame_in world) name path

-- a copy of what stands there
abbrev pub looks : ℕ → List ℕ → Action Value
looks name path = asks (λ world. at (place_of name path world) world.store)

-- what a name holds is moved out of it
abbrev pub moves : ℕ → Action Value
moves name = do
  value ← asks (λ world. name_at (frame_in world) name world.store)
  does (with_value name None)
  pure value

-- a name holds this value
abbrev pub holds : ℕ → Value → Action (Unit {0})
holds name value = does (with_value name (Some value))

-- names from one on hold these values
abbrev pub with_values : ℕ → List Value → World → World
with_values name [] world = world
with_values name (value ∷ rest) world = with_values (name + 1) rest (with_value name (Some value) world)

-- something with a store, in the world that has this store
abbrev pub stored : {A : Type 0} → Option (A × Store) → World → Option (A × World)
stored None world = None
stored (Some pair) world = Some (pair.0, in_store pair.1 world)

-- the end of a path from a name gets another value for what it held, where it is there
abbrev pub sets : ℕ → List ℕ → Value → Action Value
sets name path value = takes (λ world. stored (exchanged (place_of name path world) value world.store) world)

-- so many names from one on hold nothing
abbrev pub emptied : ℕ → ℕ → World → World
emptied name zero world = world
emptied name (suc count) world = emptied (name + 1) count (with_value name None world)

-- ---- references

-- the reference that a name holds
abbrev pub reference_held : ℕ → World → Option (ℕ × Place)
reference_held name world = reference_at (frame_in world) name world.store

-- a reference to the end of a path from what the reference in a name refers to
abbrev pub refers : ℕ → List ℕ → Action (ℕ × Place)
refers name path = asks (λ world. along (reference_held name world) (λ one. Some (reference_along one path)))

-- a copy of what stands behind a reference, whose borrow is used
abbrev pub reads : ℕ × Place → Action Value
reads one = takes (λ world. stored (read_behind one world.store) world)

-- what stands behind a reference, whose borrow is used, gives way to another value
abbrev pub puts : ℕ × Place → Value → Action Value
puts one value = takes (λ world. stored (put_behind one value world.store) world)

-- ---- borrows

-- what a borrow is for
abbrev pub access_of : BorrowMode → Access
access_of mode.Read = access.Read
access_of mode.Write = access.Write
access_of mode.Reborrow = access.Write

-- the place that is borrowed: a name itself, or what the reference in it refers to
abbrev pub borrowed_place : BorrowMode → ℕ → World → Option Place
borrowed_place mode.Read name world = Some (place_of name [] world)
borrowed_place mode.Write name world = Some (place_of name [] world)
borrowed_place mode.Reborrow name world = along (reference_held name world) (λ one. Some one.1)

-- one more borrow is open
abbrev pub with_borrow : Access → Place → World → World
with_borrow access place world = record world {
  store = opens world.store;
  borrows = record { number = world.store.borrows; access = access; place = place } ∷ world.borrows;
}

-- a name is borrowed, and the reference given
abbrev pub lends : BorrowMode → ℕ → Action Value
lends mode name = do
  place ← asks (borrowed_place mode name)
  value ← asks (λ world. Some (next_reference place world.store))
  does (with_borrow (access_of mode) place)
  pure value

-- how many borrows are open
abbrev pub counts_open : Action ℕ
counts_open = asks (λ world. Some (length world.borrows))

-- open borrows are closed, the newest first, until so many are left
abbrev pub closed_to : ℕ → World → World
closed_to count world = record world {
  store = closes (map (λ (one : Borrow). one.number) (newer count world.borrows)) world.store;
  borrows = oldest count world.borrows;
}

-- what an action opens is closed behind it
abbrev pub closing : {A : Type 0} → Action A → Action A
closing m = do
  count ← counts_open
  a ← m
  does (closed_to count)
  pure a

-- ---- frames

-- the names of a new frame: the first numbers aren't its own, then come its parameters, then other names
abbrev pub new_names : ℕ → List Value → ℕ → List (Option Value)
new_names first values others =
    replicate first None ++ (map (λ (one : Value). Some one) values ++ replicate others None)

-- a new frame begins
abbrev pub begins : List (Option Value) → World → World
begins names world = in_store (record world.store { frames = world.store.frames ++ names ∷ [] }) world

-- the running frame ends, and what its names hold is dropped
abbrev pub ends_frame : World → World
ends_frame world = in_store (record world.store { frames = take (frame_in world) world.store.frames }) world

-- ---- records and unions

-- a value of a case is made: it has a birth where its type is linear
abbrev pub makes_value : Bool → ClosedType → ℕ → Bytes → List Value → Action Value
makes_value false of tag home fields = pure (made tag None (fields_of fields))
makes_value true of tag home fields = do
  id ← asks (λ world. Some (length world.store.births))
  does (λ world. in_store (bears of home nothing world.store) world)
  pure (made tag (Some id) (fields_of fields))

-- a record is taken apart into the number of its case, which is 0, and its fields: it is consumed where it
-- has a birth
abbrev pub apart : Value → Action (ℕ × List Value)
apart (made tag birth fields) = do
  does (λ world. in_store (spends birth world.store) world)
  pure (tag, listed fields)
apart other = stuck

-- a union, or one behind a reference, is told apart into the number of its case and its fields, or references
-- to them
abbrev pub tells_apart : Value → Action (ℕ × List Value)
tells_apart value = takes (λ world. stored (told_apart value world.store) world)

-- of the values of these fields that of one of them
abbrev pub field_value : List Field → List Value → Bytes → Option Value
field_value fields values name = along (field_of name fields) (λ one. slice_get values one.0)

-- of the values of these fields those that are bound, in the order of the text
abbrev pub bound_values : List Field → List Value → List (Bound Bytes) → Option (List Value)
bound_values fields values [] = Some []
bound_values fields values (b ∷ rest) =
    along (field_value fields values b.name.name.name) (λ value.
    along (bound_values fields values rest) (λ others. Some (value ∷ others)))

-- the same, where there are as many values as fields
abbrev pub bound_counted : List Field → List Value → List (Bound Bytes) → Option (List Value)
bound_counted fields values binds =
    if length values == length fields then bound_values fields values binds else None

-- ---- arguments

-- positional arguments, where there are as many as parameters
abbrev pub by_position : List Value → List Bytes → Option (List Value)
by_position values params = if length values == length params then Some values else None

-- the value under a label
abbrev pub labelled_value : List (Bytes × Value) → Bytes → Option Value
labelled_value values name =
    along (find (λ (one : Bytes × Value). bytes_eq one.0 name) values) (λ one. Some one.1)

abbrev pub labelled_values : List (Bytes × Value) → List Bytes → Option (List Value)
labelled_values values [] = Some []
labelled_values values (name ∷ names) =
    along (labelled_value values name) (λ value.
    along (labelled_values values names) (λ rest. Some (value ∷ rest)))

-- named arguments in the order of the parameters, where there are as many
abbrev pub by_labels : List (Bytes × Value) → List Bytes → Option (List Value)
by_labels values params =
    if length values == length params then labelled_values values params else None

-- ---- shipped calls

-- operations on one value and on two
abbrev pub on_one : (Value → answer.Result Bytes) → List Value → answer.Result Bytes
on_one go [] = answer.no_rule
on_one go (a ∷ []) = go a
on_one go (a ∷ b ∷ more) = answer.no_rule

abbrev pub on_two : (Value → Value → answer.Result Bytes) → List Value → answer.Result Bytes
on_two go [] = answer.no_rule
on_two go (a ∷ []) = answer.no_rule
on_two go (a ∷ b ∷ []) = go a b
on_two go (a ∷ b ∷ c ∷ more) = answer.no_rule

-- modular arithmetic and conversions are operations on values
abbrev pub operation : ShippedCall → List Value → Option (answer.Result Bytes)
operation (prim.Wrap op kind) args = Some (on_two (wrapped_around op kind) args)
operation (prim.Convert kind) args = Some (on_one (converted_value kind) args)
operation call args = None

-- bytes are written
abbrev pub written : List ℕ → World → World
written bytes world = record world { output = world.output ++ bytes }

-- what a shipped call comes to, where it doesn't wait for a byte of the input
abbrev pub answered : answer.Answer Bytes ClosedType → Action Value
answered (answer.gives value store) world ticks = gives value (in_store store world) ticks
answered (answer.writes bytes store) world ticks =
    gives values.unit (written bytes (in_store store world)) ticks
answered answer.waits world ticks = no_rule world ticks
answered (answer.aborts fault store) world ticks = aborts fault (in_store store world) ticks
answered answer.none world ticks = no_rule world ticks

-- the next byte of the input, if one is left, and the rest of it
abbrev pub next_byte : List ℕ → Option ℕ
next_byte [] = None
next_byte (byte ∷ rest) = Some byte

abbrev pub other_bytes : List ℕ → List ℕ
other_bytes [] = []
other_bytes (byte ∷ rest) = rest

-- what a shipped call comes to when the next byte of the input has come, or none was left
abbrev pub heard : List Value → Action Value
heard args world ticks =
    answered (of_one (byte_read (next_byte world.left) world.store) args)
    (record world { left = other_bytes world.left }) ticks

-- what a shipped call comes to, where it may wait for a byte of the input
abbrev pub told : List Value → answer.Answer Bytes ClosedType → Action Value
told args (answer.gives value store) = answered (answer.gives value store)
told args (answer.writes bytes store) = answered (answer.writes bytes store)
told args answer.waits = heard args
told args (answer.aborts fault store) = answered (answer.aborts fault store)
told args answer.none = stuck

-- what a shipped call comes to, where it may be an operation on values
abbrev pub shipped_by : Option (answer.Result Bytes) → ShippedCall → Option ClosedType → List Value
    → Action Value
shipped_by (Some result) call born args = comes result
shipped_by None call born args =
    λ world ticks. told args (shipped (λ text. text) call born world.store args) world ticks

-- a shipped call, with the type of what is born, if it is a birth
abbrev pub ships_call : ShippedCall → Option ClosedType → List Value → Action Value
ships_call call born args = shipped_by (operation call args) call born args
