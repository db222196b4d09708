-- Type parameters that stand for types, and what is given for those of a declared type with its arguments.
use Rattle.std.specs.Prelude.{Bool, true, false, List, [], ◌∷◌, if◌then◌else◌}
use Rattle.au_syntax.specs.declared.declarations.Universe.{Universe}
use Rattle.au_syntax.specs.declared.declarations.Universe.TheVariants as universes
use Rattle.au_syntax.specs.Plain.{Bytes}
use Rattle.au_types.specs.declared.parameters.Parameter.{Parameter}
use Rattle.au_type_texts.specs.Types.{ClosedType, ClosedTypes, no_types, types}
use Rattle.au_type_texts.specs.Given.{Given}

-- whether a type parameter of a universe is a region
abbrev pub is_region : Universe → Bool
is_region universes.Region = true
is_region universe = false

-- the names of type parameters that aren't regions, in declared order
abbrev pub type_names : List Parameter → List Bytes
type_names [] = []
type_names (p ∷ params) = if is_region p.universe then type_names params else p.name ∷ type_names params

-- closed types as a list
abbrev pub listed : ClosedTypes → List ClosedType
listed no_types = []
listed (types t rest) = t ∷ listed rest

-- each name with the closed type in its place
abbrev pub given_over : List Bytes → List ClosedType → Given
given_over [] args = []
given_over (name ∷ names) [] = []
given_over (name ∷ names) (t ∷ args) = (name, t) ∷ given_over names args
