-- What the code's substitutions list.
use Rattle.std.specs.Prelude.{ℕ, List, map}
use Rattle.au_types.specs.Types.{Argument}
use Rattle.au_types.specs.Views.{argument}
use Rattle.au_matching.specs.Bindings.{Bindings}
use Rattle.au_matching.specs.declared.substitutions.Binding.{Binding}

-- a binding as a pair
abbrev pub pair_of : Binding → List ℕ × Argument
pair_of one = (one.name, argument one.value)

-- bindings as pairs
abbrev pub pairs : List Binding → Bindings
pairs bindings = map pair_of bindings
