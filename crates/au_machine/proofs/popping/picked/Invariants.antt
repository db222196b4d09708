use Rattle.std.proofs.Common.{◌≡◌, ◌++◌, List, drop, Some}
use Rattle.au_effects.specs.Parts.{along}
use Rattle.au_low.specs.Machines.{Low, arguments_at}
use Rattle.au_cells.specs.Cells.{lows}
use Rattle.au_stores.specs.Stores.{slots_of}
use Rattle.au_machine.proofs.popping.picked.Given as goal

-- what is left decides
abbrev pub invariant-loop-index : goal.invariant-loop-index
invariant-loop-index l = along (arguments_at (drop l.index-index l.fn.order) (slots_of l.left.items))
    (λ (rest : List Low). Some (lows l.cells.items ++ rest))
    ≡ arguments_at l.fn.order (slots_of l.fn.left.items)
