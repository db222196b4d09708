-- A test of types for one of them.
use Rattle.std.specs.Prelude.{Bool, false, Option, None, Some}
use Rattle.au_types.specs.declared.types.DeclAt.{DeclAt}
use Rattle.au_types.specs.Rows.{same_place}

-- whether a type is this one, if there is one
abbrev pub is_this : Option DeclAt → DeclAt → Bool
is_this None a = false
is_this (Some b) a = same_place a b
