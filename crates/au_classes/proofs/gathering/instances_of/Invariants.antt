use Rattle.std.proofs.Common.{◌≡◌, ◌++◌, drop}
use Rattle.au_modules.specs.Slots as slots
use Rattle.au_classes.specs.Texts as spec
use Rattle.au_classes.specs.InstanceViews.{texts_said}
use Rattle.au_classes.proofs.gathering.instances_of.Given as goal

-- what is pushed, and what is left to push
abbrev pub invariant-loop-place : goal.invariant-loop-place
invariant-loop-place l =
    texts_said l.list.items ++ spec.instances_from (slots.modules l.program) l.place
    (drop l.place (slots.modules l.program))
    ≡ spec.instances_of (slots.modules l.program)
