-- Arguments that are those of type parameters but for their universes.
use Rattle.std.specs.Prelude.{List, IsTrue, ◌&&◌}
use Rattle.au_types.specs.declared.headings.Head.{Head}
use Rattle.au_types.specs.declared.parameters.Parameter.{Parameter}
use Rattle.au_types.specs.declared.types.DeclAt.{DeclAt}
use Rattle.au_types.specs.Types.{Arguments}
use Rattle.au_matching.specs.Forming.{all_fit, all_formed, fits_in_kind}

-- there are as many, a region exactly where a parameter is one, and each stands over the rows and the type
-- parameters in scope
abbrev pub StandFor : List (DeclAt × Head) → List Parameter → List Parameter → Arguments → Type 0
StandFor heads params expected args =
    IsTrue (all_fit fits_in_kind expected args && all_formed fits_in_kind heads params args)
