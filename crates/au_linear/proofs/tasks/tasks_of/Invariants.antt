use Rattle.std.proofs.Common.{◌++◌, List, drop, length, reverse}
use Rattle.au_linear.specs.declared.tasks.Task.{Task}
use Rattle.au_linear.specs.Allotting.{Allotted}
use Rattle.au_linear.proofs.tasks.tasks_of.Given as goal

-- with the tasks of those that are left, the tasks are those of all
abbrev pub invariant-loop-life : goal.invariant-loop-life
invariant-loop-life l = (more : List Task) → Allotted (reverse l.left.items) (drop l.next l.sorts) more →
    Allotted (reverse l.initial.left.items) l.sorts (l.tasks.items ++ more)

abbrev pub decreases-loop-life : goal.decreases-loop-life
decreases-loop-life l = length l.left.items
