use Rattle.std.proofs.Common.{◌≡◌, ◌-◌, drop, length}
use Rattle.au_typing.proofs.variables.Variables.leave_to.Given as goal

-- what is left in the end is what is left of those that are there now
abbrev pub invariant-loop-self : goal.invariant-loop-self
invariant-loop-self l = drop (length l.self - l.count) l.self
    ≡ drop (length l.initial.self - l.count) l.initial.self

abbrev pub decreases-loop-self : goal.decreases-loop-self
decreases-loop-self l = length l.self
