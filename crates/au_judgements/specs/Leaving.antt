-- How the scope at a place grows in a block.
use Rattle.std.specs.Prelude.{◌≡◌, ◌++◌, List}
use Rattle.au_typing.specs.Scopes.{Scope, Variable}

-- a scope has grown by variables alone, which are the innermost
abbrev pub IsGrown : Scope → Scope → Type 0
IsGrown old new = (more : List Variable) × (new ≡ record old { variables = more ++ old.variables })
