use Rattle.std.proofs.Common.{◌≡◌, ◌++◌, drop}
use Rattle.au_explain.specs.Said.{binds_said, statements_said}
use Rattle.au_explain.specs.Variables.{listed_binds}
use Rattle.au_noting.specs.Scopes.{scope_said}
use Rattle.au_explain.proofs.variables.push_binds.Given as goal

-- what is put and what is left are all
abbrev pub invariant-loop-one : goal.invariant-loop-one
invariant-loop-one l =
    l.made.items ++ listed_binds (scope_said l.scope) (binds_said (drop l.one-index l.one-items))
    (statements_said l.stmts)
    ≡ l.fn.made.items ++ listed_binds (scope_said l.scope) (binds_said l.one-items) (statements_said l.stmts)
