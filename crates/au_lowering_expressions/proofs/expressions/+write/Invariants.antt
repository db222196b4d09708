use Rattle.std.proofs.Common.{◌≡◌, drop}
use Rattle.au_closed_trees.specs.contracts.phase.ClosedTreesPhase.TheImpl.{ghosts as closed}
use Rattle.au_closed_meanings.specs.Surroundings.{view_in}
use Rattle.au_lowered.specs.Expressions.{code_of_all, code_of_named}
use Rattle.au_lowering_expressions.specs.Views.{drafts_said, scope_said}
use Rattle.au_lowering_expressions.specs.Wrote.{wrote}
use Rattle.au_syntax.specs.Views.{argument_all, expression_all}
use Rattle.au_lowering_expressions.proofs.expressions.+write.Given as goal

-- what is written and what is left are all
abbrev pub invariant-write_all-loop-one : goal.invariant-write_all-loop-one
invariant-write_all-loop-one g l =
    wrote (code_of_all (view_in (g.R.Lookup.round l.lookup)) (scope_said l.scope)
    (expression_all closed (drop l.one-index l.one-items))) (drafts_said l.out.items)
    ≡ wrote (code_of_all (view_in (g.R.Lookup.round l.lookup)) (scope_said l.scope)
    (expression_all closed l.one-items)) (drafts_said l.fn.out.items)

abbrev pub invariant-write_arguments-loop-one : goal.invariant-write_arguments-loop-one
invariant-write_arguments-loop-one g l =
    wrote (code_of_named (view_in (g.R.Lookup.round l.lookup)) (scope_said l.scope)
    (argument_all closed (drop l.one-index l.one-items))) (drafts_said l.out.items)
    ≡ wrote (code_of_named (view_in (g.R.Lookup.round l.lookup)) (scope_said l.scope)
    (argument_all closed l.one-items)) (drafts_said l.fn.out.items)
