use Rattle.std.proofs.Common.{◌≡◌, take}
use Rattle.au_types.specs.Views.{argument_all}
use Rattle.au_type_texts.specs.Sizes as sizes
use Rattle.au_type_texts.specs.Sizes.{counted}
use Rattle.au_type_texts.proofs.limits.+nodes.Given as goal

-- the nodes of the arguments that are visited
abbrev pub invariant-arguments_nodes-loop-one : goal.invariant-arguments_nodes-loop-one
invariant-arguments_nodes-loop-one l =
    l.count ≡ counted (sizes.arguments_nodes (argument_all (take l.one-index l.one-items)))
