-- Written types with all their names at one place.
use Rattle.std.specs.Prelude.{ℕ, List}
use Rattle.au_base.specs.declared.places.Pos.{Pos}
use Rattle.au_syntax.specs.Names.{Placed}
use Rattle.au_syntax.specs.Types.{WrittenType, WrittenTypes, named, reference, no_types, types}

-- a name at another place
abbrev pub name_at : Pos → Placed (List ℕ) → Placed (List ℕ)
name_at at name = record { name = name.name; at = at }

unfoldable mutual
  -- a type whose names and signs stand at this place
  pub moved : Pos → WrittenType → WrittenType
  moved at (named name args) = named (name_at at name) (all_moved at args)
  moved at (reference place kind target region) = reference at kind (moved at target) (name_at at region)

  -- types whose names and signs stand at this place
  pub all_moved : Pos → WrittenTypes → WrittenTypes
  all_moved at no_types = no_types
  all_moved at (types t rest) = types (moved at t) (all_moved at rest)
