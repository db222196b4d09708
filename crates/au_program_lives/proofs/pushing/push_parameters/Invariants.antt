use Rattle.std.proofs.Common.{◌≡◌, ◌++◌, drop}
use Rattle.au_program_lives.specs.Scopes.{scope_said}
use Rattle.au_program_lives.specs.Said.{parameters_said}
use Rattle.au_program_lives.specs.Sorts.{parameter_sorts}
use Rattle.au_program_lives.proofs.pushing.push_parameters.Given as goal

-- what is put and what is left are all
abbrev pub invariant-loop-one : goal.invariant-loop-one
invariant-loop-one g l =
    l.made.items ++ parameter_sorts (parameters_said g.P.Phase (drop l.one-index l.one-items)) (scope_said l.scope)
    ≡ l.fn.made.items ++ parameter_sorts (parameters_said g.P.Phase l.one-items) (scope_said l.scope)
