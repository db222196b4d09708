-- A bare argument whose parameter's type isn't fixed.
use Rattle.std.specs.Prelude.{Bool, true, false, None, Err}
use Rattle.au_types.specs.Types.{Meaning, parameter}
use Rattle.au_matching.specs.Bindings.{Bindings}
use Rattle.au_matching.specs.Substituted.{substituted}
use Rattle.au_typing.specs.Faults.{Noting, ◌>>=◌, why, different}
use Rattle.au_typing.specs.Notes.{NotedExpression}
use Rattle.au_typing.specs.Operands.{Noter}
use Rattle.au_typing.specs.Rules.{int32}
use Rattle.au_typing.specs.SearchCalls.{taken_as}

-- a type parameter alone
abbrev pub is_parameter : Meaning → Bool
is_parameter (parameter name) = true
is_parameter t = false

-- the argument, where the test says whether the parameter's type is a type parameter alone
abbrev pub taken_unfixed : Bool → Noter → Meaning → Bindings → Noting (NotedExpression × Bindings)
taken_unfixed true e p s = e None >>= taken_as p int32 s
taken_unfixed false e p s = Err (why (different (substituted s p) int32))
