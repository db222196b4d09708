use Rattle.std.proofs.Common.{◌≡◌, length, take}
use Rattle.au_lowering_expressions.proofs.locals.Locals.leave_to.Given as goal

-- what is left in the end is what is left of those that are there now
abbrev pub invariant-loop-self : goal.invariant-loop-self
invariant-loop-self l = take l.count l.self ≡ take l.count l.initial.self

abbrev pub decreases-loop-self : goal.decreases-loop-self
decreases-loop-self l = length l.self
