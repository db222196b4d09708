use Rattle.std.proofs.Common.{◌≡◌, take}
use Rattle.au_types.specs.Views.{argument_all}
use Rattle.au_typing.specs.Called.{as_arguments}
use Rattle.au_sights.proofs.makers.as_arguments.Given as goal

-- the type parameters so far
abbrev pub invariant-loop-index : goal.invariant-loop-index
invariant-loop-index l = argument_all l.args.items ≡ as_arguments (take l.index l.params)
