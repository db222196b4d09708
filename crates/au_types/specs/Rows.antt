-- What is known of declared types: rows in order, each with its declaration.
use Rattle.std.specs.Prelude.{List, Option, Bool, ◌==◌, ◌&&◌}
use Rattle.std.specs.Map.{lookup}
use Rattle.au_types.specs.declared.types.DeclAt.{DeclAt}
use Rattle.au_types.specs.declared.headings.Head.{Head}

-- whether two places of declarations are one
abbrev pub same_place : DeclAt → DeclAt → Bool
same_place a b = (a.«module» == b.«module») && (a.decl == b.decl)

-- the head of the first row of a declaration, and none where no row is of it
abbrev pub head_of : List (DeclAt × Head) → DeclAt → Option Head
head_of rows at = lookup (same_place at) rows
