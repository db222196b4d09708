use Rattle.std.proofs.Common.{drop}
use Rattle.au_lives.specs.Scopes.{bound_over}
use Rattle.au_paths.specs.Seen.{seen_binds, seen_statements}
use Rattle.au_linear.proofs.TellingLemmas.{Settles}
use Rattle.au_linear.proofs.checking.check_binds.Given as goal

-- what is left decides
abbrev pub invariant-loop-one : goal.invariant-loop-one
invariant-loop-one g l =
    Settles
    (bound_over (seen_binds g.P.Phase (drop l.one-index l.one-items))
    (seen_statements g.P.Phase (drop l.from l.block.statements.items)))
    (bound_over (seen_binds g.P.Phase l.one-items) (seen_statements g.P.Phase (drop l.from l.block.statements.items)))
    l.tasks l.at l.next
