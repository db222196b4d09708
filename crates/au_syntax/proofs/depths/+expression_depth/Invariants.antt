use Rattle.std.proofs.Common.{◌≡◌, take}
use Rattle.au_syntax.specs.Views.{expression_all, argument_all}
use Rattle.au_syntax.specs.Plain.{plain_expressions, plain_arguments}
use Rattle.au_syntax.specs.Depths as spec
use Rattle.au_syntax.specs.Depths.{counted}
use Rattle.au_syntax.proofs.depths.+expression_depth.Given as goal

-- the depth of what is visited
abbrev pub invariant-expressions_depth-loop-one : goal.invariant-expressions_depth-loop-one
invariant-expressions_depth-loop-one g l =
    l.deepest ≡ counted (spec.expressions_depth
    (plain_expressions g.P.Phase.name_bytes (expression_all g.P.Phase (take l.one-index l.one-items))))

abbrev pub invariant-arguments_depth-loop-one : goal.invariant-arguments_depth-loop-one
invariant-arguments_depth-loop-one g l =
    l.deepest ≡ counted (spec.arguments_depth
    (plain_arguments g.P.Phase.name_bytes (argument_all g.P.Phase (take l.one-index l.one-items))))
