use Rattle.std.proofs.Common.{◌≡◌, take}
use Rattle.au_promises.specs.Written.{declarations_of, sight_in}
use Rattle.au_classes.specs.Texts.{definition_indices}
use Rattle.au_classes.proofs.definitions.indices_by.Given as goal

-- the indices of the definitions of what is visited
abbrev pub invariant-loop-one : goal.invariant-loop-one
invariant-loop-one l = l.all.items ≡ definition_indices (sight_in l.sight) (declarations_of l.body)
    (declarations_of (take l.one-index l.interface))
