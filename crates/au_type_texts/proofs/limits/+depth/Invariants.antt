use Rattle.std.proofs.Common.{◌≡◌, take}
use Rattle.au_types.specs.Views.{argument_all}
use Rattle.au_type_texts.specs.Sizes as sizes
use Rattle.au_type_texts.specs.Sizes.{counted}
use Rattle.au_type_texts.proofs.limits.+depth.Given as goal

-- the depth of the arguments that are visited
abbrev pub invariant-arguments_depth-loop-one : goal.invariant-arguments_depth-loop-one
invariant-arguments_depth-loop-one l =
    l.deepest ≡ counted (sizes.arguments_depth (argument_all (take l.one-index l.one-items)))
