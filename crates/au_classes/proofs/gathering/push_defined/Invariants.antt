use Rattle.std.proofs.Common.{◌≡◌, ◌++◌, drop}
use Rattle.au_promises.specs.Written.{declarations_of}
use Rattle.au_classes.specs.Texts.{defined_from}
use Rattle.au_classes.specs.InstanceViews.{texts_said}
use Rattle.au_classes.proofs.gathering.push_defined.Given as goal

-- what is pushed, and what is left to push
abbrev pub invariant-loop-index : goal.invariant-loop-index
invariant-loop-index l =
    texts_said l.list.items ++ defined_from l.definitions.items l.place l.before l.index
    (declarations_of (drop l.index l.body))
    ≡ texts_said l.initial.list.items ++ defined_from l.definitions.items l.place l.before 0 (declarations_of l.body)
