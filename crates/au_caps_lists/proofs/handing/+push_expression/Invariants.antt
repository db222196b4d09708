use Rattle.std.proofs.Common.{◌≡◌, ◌++◌, take}
use Rattle.au_sights.specs.contracts.noted.NotedPhase.TheImpl.{ghosts as noted}
use Rattle.au_syntax.specs.Views.{argument_all, expression_all}
use Rattle.au_caps_lists.specs.Holding.{handed_in_all, handed_in_arguments}
use Rattle.au_caps_lists.specs.Views.{mentions_said}
use Rattle.au_caps_lists.proofs.handing.+push_expression.Given as goal

-- what is handed on in the expressions so far
abbrev pub invariant-push_expressions-loop-one : goal.invariant-push_expressions-loop-one
invariant-push_expressions-loop-one l =
    mentions_said l.made.items
    ≡ mentions_said l.fn.made.items ++ handed_in_all (expression_all noted (take l.one-index l.one-items))

-- what is handed on in the named arguments so far
abbrev pub invariant-push_arguments-loop-one : goal.invariant-push_arguments-loop-one
invariant-push_arguments-loop-one l =
    mentions_said l.made.items
    ≡ mentions_said l.fn.made.items ++ handed_in_arguments (argument_all noted (take l.one-index l.one-items))
