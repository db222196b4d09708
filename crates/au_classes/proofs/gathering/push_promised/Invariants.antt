use Rattle.std.proofs.Common.{◌≡◌, ◌++◌, drop}
use Rattle.au_promises.specs.Written.{declarations_of}
use Rattle.au_classes.specs.Texts.{promised_from}
use Rattle.au_classes.specs.InstanceViews.{texts_said}
use Rattle.au_classes.proofs.gathering.push_promised.Given as goal

-- what is pushed, and what is left to push
abbrev pub invariant-loop-number : goal.invariant-loop-number
invariant-loop-number l =
    texts_said l.list.items ++ promised_from (declarations_of l.body) l.definitions.items l.place l.number
    (declarations_of (drop l.number l.interface))
    ≡ texts_said l.initial.list.items ++ promised_from (declarations_of l.body) l.definitions.items l.place 0
    (declarations_of l.interface)
