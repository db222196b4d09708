use Rattle.std.proofs.Common.{◌≡◌, drop}
use Rattle.std.specs.Str.{bytes_eq}
use Rattle.au_lowered.specs.Expressions.{numbers_from}
use Rattle.au_lowering_expressions.proofs.orders.is_declared.Given as goal

-- the numbers so far stand in declared order, so those that are left decide
abbrev pub invariant-loop-index : goal.invariant-loop-index
invariant-loop-index l =
    bytes_eq (drop l.index l.order.items) (numbers_from l.index (drop l.index l.order.items))
    ≡ bytes_eq l.order.items (numbers_from 0 l.order.items)
