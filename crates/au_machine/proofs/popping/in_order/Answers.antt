use Rattle.std.proofs.Common.{List, Some, ap, sym, ◌∙◌, arith}
use Rattle.au_low.specs.Machines.{Low}
use Rattle.au_cells.specs.Cells.{lows}
use Rattle.au_machine.proofs.OrderLemmas.{stays_declared}
use Rattle.au_machine.proofs.popping.in_order.Goals as goal
use Rattle.au_stores.proofs.FillLemmas.{lows_reverse}

pub returns-then-is_declared : goal.returns-then-is_declared
returns-then-is_declared c =
    let cells = c.args.values.items in
    ap (λ (values : List Low). Some values) (ap lows c.reverse.ensures.items ∙ lows_reverse cells)
    ∙ stays_declared c.args.order.now cells (sym c.is_declared.ensures ∙ c.if-is_declared.true)
    (omega (arith, c.args.values.ok.0, c.len.ensures, c.if-order-len.false))
