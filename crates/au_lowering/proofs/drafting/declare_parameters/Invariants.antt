use Rattle.std.proofs.Common.{◌≡◌, drop}
use Rattle.au_closed_trees.specs.Views.{fields_said}
use Rattle.au_lowering_statements.specs.LoweringExpressions.Views.{scope_said}
use Rattle.au_lowering.specs.Closed.{fields_seen}
use Rattle.au_meaning.specs.Names.{with_parameters}
use Rattle.au_lowering.proofs.drafting.declare_parameters.Given as goal

-- what is left makes of the scope what all makes of that at first
abbrev pub invariant-loop-one : goal.invariant-loop-one
invariant-loop-one l =
    (l.slot ≡ l.one-index)
    × (with_parameters l.slot (fields_seen (fields_said (drop l.one-index l.one-items)))
    (scope_said l.scope)
    ≡ with_parameters 0 (fields_seen (fields_said l.one-items)) (scope_said l.fn.scope))
