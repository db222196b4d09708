-- Written types.
use Rattle.std.specs.Prelude.{ℕ, List}
use Rattle.au_base.specs.declared.places.Pos.{Pos}
use Rattle.au_syntax.specs.declared.types.Access.{Access}
use Rattle.au_syntax.specs.Names.{Placed, Renaming}

mutual
  -- a name with its arguments, or a reference with the type behind it and its region
  pub data WrittenType : Type 0 where
    named : Placed (List ℕ) → WrittenTypes → WrittenType
    reference : Pos → Access → WrittenType → Placed (List ℕ) → WrittenType

  -- types with commas between
  pub data WrittenTypes : Type 0 where
    no_types : WrittenTypes
    types : WrittenType → WrittenTypes → WrittenTypes

-- a field or a parameter: its name and its type
pub record Labelled (N : Type 0) : Type 0 where
  pub name : Placed N
  pub of : WrittenType

-- a field that is bound to a variable: its name, that of the variable after `as`, and its type
pub record Bound (N : Type 0) : Type 0 where
  pub name : Renaming N
  pub of : WrittenType
