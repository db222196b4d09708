use Rattle.std.proofs.Common.{◌≡◌, take}
use Rattle.au_types.specs.Views.{argument_all}
use Rattle.au_types.proofs.copying.+copy_type.Given as goal

-- the arguments copied so far
abbrev pub invariant-copy_arguments-loop-one : goal.invariant-copy_arguments-loop-one
invariant-copy_arguments-loop-one l = argument_all l.copies.items ≡ argument_all (take l.one-index l.one-items)
