use Rattle.std.proofs.Common.{◌≡◌, ◌++◌, drop}
use Rattle.au_program_lives.specs.Scopes.{scope_said}
use Rattle.au_program_lives.specs.Said.{binds_said}
use Rattle.au_program_lives.specs.Sorts.{bound_sorts}
use Rattle.au_program_lives.proofs.pushing.push_binds.Given as goal

-- what is put and what is left are all
abbrev pub invariant-loop-one : goal.invariant-loop-one
invariant-loop-one g l =
    l.made.items ++ bound_sorts (binds_said g.P.Phase (drop l.one-index l.one-items)) (scope_said l.scope)
    ≡ l.fn.made.items ++ bound_sorts (binds_said g.P.Phase l.one-items) (scope_said l.scope)
