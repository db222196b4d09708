-- The values of a running program. A text is of a type T: the source has its bytes, and lowered code its
-- number.
use Rattle.std.specs.Prelude.{ℕ, Bool, List, [], ◌∷◌, Option, Some, None, ℤ}
use Rattle.au_base.specs.declared.kinds.IntKind.{IntKind}

-- what a place begins with: a name of a frame, each by its number, or the content of the box of a birth
pub data Base : Type 0 where
  name_of : (frame name : ℕ) → Base
  content_of : (birth : ℕ) → Base

-- a place: what it begins with, and the numbers of the fields from there on
pub record Place : Type 0 where
  pub base : Base
  pub path : List ℕ

mutual
  -- A value. One of a record or a union has the number of its case, its birth where its type is linear, and
  -- its fields; a record is a value of case 0. A reference has the number of its borrow, and its place.
  -- Boxes, buffers, terminals and the root are their births.
  pub data Value (T : Type 0) : Type 0 where
    unit : Value T
    truth : Bool → Value T
    number : IntKind → ℤ → Value T
    text : T → Value T
    made : (tag : ℕ) (birth : Option ℕ) (fields : Fields T) → Value T
    reference : (borrow : ℕ) (place : Place) → Value T
    box : (birth : ℕ) → Value T
    buffer : (birth : ℕ) → Value T
    terminal : (birth : ℕ) → Value T
    root : (birth : ℕ) → Value T

  -- the values of fields, in order
  pub data Fields (T : Type 0) : Type 0 where
    no_fields : Fields T
    field_then : Value T → Fields T → Fields T

-- fields as a list
abbrev pub listed : {T : Type 0} → Fields T → List (Value T)
listed no_fields = []
listed (field_then value rest) = value ∷ listed rest

-- the fields that a list holds
abbrev pub fields_of : {T : Type 0} → List (Value T) → Fields T
fields_of [] = no_fields
fields_of (value ∷ rest) = field_then value (fields_of rest)

-- the value of a case without a birth
abbrev pub free_case : {T : Type 0} → ℕ → List (Value T) → Value T
free_case tag values = made tag None (fields_of values)

-- an Option that may hold a value: the case of none is 0, and that of some is 1
abbrev pub optional : {T : Type 0} → Option (Value T) → Value T
optional None = free_case 0 []
optional (Some value) = free_case 1 (value ∷ [])
