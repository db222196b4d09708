use Rattle.std.proofs.Common.{◌≡◌, drop, map}
use Rattle.au_closed_trees.specs.contracts.phase.ClosedTreesPhase.TheImpl.{ghosts as closed}
use Rattle.au_lowered.specs.Slots.{with_fields}
use Rattle.au_lowering_expressions.specs.Views.{scope_said}
use Rattle.au_lowering_statements.specs.Views.{Begins, fields_taken}
use Rattle.au_syntax.specs.Views.{bound}
use Rattle.au_lowering_statements.proofs.entering.bind_fields.Given as goal

-- the fields so far are in scope, and those that are left come to all
abbrev pub invariant-loop-one : goal.invariant-loop-one
invariant-loop-one g l =
    (Begins l.fn.scope l.scope)
    × (with_fields (fields_taken (g.R.Lookup.round l.lookup) l.taken) l.slot
    (map (bound closed) (drop l.one-index l.one-items)) (scope_said l.scope)
    ≡ with_fields (fields_taken (g.R.Lookup.round l.lookup) l.taken) l.slot
    (map (bound closed) l.one-items) (scope_said l.fn.scope))
