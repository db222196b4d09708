use Rattle.std.proofs.Common.{◌≡◌, drop}
use Rattle.au_machine.specs.States.{is_counted}
use Rattle.au_machine.proofs.popping.is_declared.Given as goal

-- what is left decides
abbrev pub invariant-loop-index : goal.invariant-loop-index
invariant-loop-index l = (is_counted l.at (drop l.index-index l.fn.order) ≡ is_counted 0 l.fn.order)
    × (l.at ≡ l.index-index)
