-- What holds of the definitions, for those who stand on them.
use Rattle.std.specs.Prelude.{◌≡◌, ℕ, List, Some}
use Rattle.au_effects.specs.Values.{Value, Fields, listed, fields_of}
use Rattle.au_effects.specs.Parts.{part, with_part}

-- where a part of a value is there, another that is put in its place is there afterwards
abbrev pub WhatIsPutIsThere : Type 0
WhatIsPutIsThere =
    (path : List ℕ) (value old new : Value ℕ) → part path value ≡ Some old
    → part path (with_part path new value) ≡ Some new

-- fields are a list, and a list is fields
abbrev pub ListsAreFields : Type 0
ListsAreFields =
    ((values : List (Value ℕ)) → listed (fields_of values) ≡ values)
    × ((fields : Fields ℕ) → fields_of (listed fields) ≡ fields)
