-- Names in trees, by what a phase keeps for a name.
use Rattle.std.specs.Prelude.{Option}
use Rattle.au_base.specs.declared.places.Pos.{Pos}

-- a name, and the place of its token
pub record Placed (N : Type 0) : Type 0 where
  pub name : N
  pub at : Pos

-- a name from elsewhere, and the name after its `as`
pub record Renaming (N : Type 0) : Type 0 where
  pub name : Placed N
  pub alias : Option (Placed N)
