-- The universes of type parameters.
use Rattle.std.specs.Prelude.{ℕ, List, [], ◌∷◌, Option, None, Some, if◌then◌else◌}
use Rattle.std.specs.Str.{bytes_eq}
use Rattle.au_syntax.specs.declared.declarations.Universe.{Universe}
use Rattle.au_types.specs.declared.parameters.Parameter.{Parameter}

-- the universe of the first parameter that has the name, and none where no parameter has it
abbrev pub universe_in : List Parameter → List ℕ → Option Universe
universe_in [] name = None
universe_in (one ∷ rest) name = if bytes_eq one.name name then Some one.universe else universe_in rest name
