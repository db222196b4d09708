-- Where the first of some items stands that has a key, and which indices are among some.
use Rattle.std.specs.Prelude.{◌≡◌, ◌==◌, ◌<◌, ℕ, Bool, true, false, List, Option, None, Some}
use Rattle.std.specs.Prelude.{slice_get, slice_index_or, slice_set}
use Rattle.std.specs.List.{list_any, position_from}
use Rattle.au_syntax.specs.Plain.{Bytes}
use Rattle.au_types.specs.Tables as tables
use Rattle.au_types.specs.Tables.{with_pair}
use Rattle.au_promises.specs.Promises.{is_name}

-- the index of the first item that passes a test, if one does
abbrev pub first_index : {A : Type 0} → (A → Bool) → List A → Option ℕ
first_index test items = position_from test 0 items

-- an item has this key
abbrev pub has_key : {A : Type 0} → (A → Option Bytes) → Bytes → A → Bool
has_key key_of key item = is_name key (key_of item)

-- By each key a table finds the index of the first of some items that has it.
abbrev pub FindsFirst : {A : Type 0} → (A → Option Bytes) → List A → List (Bytes × ℕ) → Type 0
FindsFirst key_of items table = (key : Bytes) → tables.find key table ≡ first_index (has_key key_of key) items

-- a table with an index under one more key, if there is one
abbrev pub with_key : List (Bytes × ℕ) → Option Bytes → ℕ → List (Bytes × ℕ)
with_key table None index = table
with_key table (Some key) index = with_pair table key index

-- this is the index
abbrev pub is_index : ℕ → Option ℕ → Bool
is_index index None = false
is_index index (Some other) = index == other

-- an index is among some
abbrev pub is_among : ℕ → List (Option ℕ) → Bool
is_among index some = list_any (is_index index) some

-- marks with that of an index set, if there is one and it has a mark
abbrev pub with_mark : List Bool → Option ℕ → List Bool
with_mark marks None = marks
with_mark marks (Some index) = slice_set marks index true

-- of so many indices those are marked that are among some
abbrev pub MarkAmong : List (Option ℕ) → ℕ → List Bool → Type 0
MarkAmong some count marks =
    (index : ℕ) → index < count → slice_index_or marks index false ≡ is_among index some

-- an item is there and passes a test
abbrev pub passes : {A : Type 0} → (A → Bool) → Option A → Bool
passes test None = false
passes test (Some item) = test item

-- the item of an index is there and passes a test
abbrev pub at_index : {A : Type 0} → (A → Bool) → List A → ℕ → Bool
at_index test items index = passes test (slice_get items index)
