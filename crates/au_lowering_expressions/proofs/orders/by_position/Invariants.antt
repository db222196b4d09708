use Rattle.std.proofs.Common.{◌≡◌, take}
use Rattle.au_lowered.specs.Expressions.{numbers_from}
use Rattle.au_lowering_expressions.proofs.orders.by_position.Given as goal

-- the numbers of the parameters so far
abbrev pub invariant-loop-number : goal.invariant-loop-number
invariant-loop-number l = l.order.items ≡ numbers_from 0 (take l.number l.parameters.items)
