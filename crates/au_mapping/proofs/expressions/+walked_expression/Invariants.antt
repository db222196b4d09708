use Rattle.std.proofs.Common.{◌≡◌, take}
use Rattle.au_syntax.specs.Views.{expression_all, argument_all}
use Rattle.au_mapping.specs.Seen.{before, after}
use Rattle.au_mapping.proofs.expressions.+walked_expression.Given as goal

-- the expressions walked so far
abbrev pub invariant-walked_expressions-loop-one : goal.invariant-walked_expressions-loop-one
invariant-walked_expressions-loop-one g l =
    expression_all (after g.W.Walk) l.made.items
    ≡ expression_all (before g.W.Walk) (take l.one-index l.one-items)

-- the arguments walked so far
abbrev pub invariant-walked_arguments-loop-one : goal.invariant-walked_arguments-loop-one
invariant-walked_arguments-loop-one g l =
    argument_all (after g.W.Walk) l.made.items
    ≡ argument_all (before g.W.Walk) (take l.one-index l.one-items)
