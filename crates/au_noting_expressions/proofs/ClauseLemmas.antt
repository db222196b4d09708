-- The clauses of the search for a bare argument whose parameter's type isn't fixed, by a test.
use Rattle.std.specs.Prelude.{◌≡◌, false, refl}
use Rattle.au_types.specs.Types as mean
use Rattle.au_types.specs.Types.{Meaning}
use Rattle.au_matching.specs.Bindings.{Bindings}
use Rattle.au_typing.specs.Operands.{Noter}
use Rattle.au_typing.specs.SearchCalls.{taken_bare}
use Rattle.au_noting_expressions.specs.Bare.{is_parameter, taken_unfixed}

pub unfixed_clause : (e : Noter) (p : Meaning) (s : Bindings) → taken_bare false e p s
    ≡ taken_unfixed (is_parameter p) e p s
unfixed_clause e (mean.parameter name) s = refl
unfixed_clause e mean.unit s = refl
unfixed_clause e mean.truth s = refl
unfixed_clause e (mean.integer kind) s = refl
unfixed_clause e mean.text s = refl
unfixed_clause e (mean.named of args) s = refl
unfixed_clause e (mean.reads to region) s = refl
unfixed_clause e (mean.writes to region) s = refl
