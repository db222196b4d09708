use Rattle.std.proofs.Common.{List, Some, ap, sym, ◌∙◌, arith}
use Rattle.std.specs.Option.{option_map}
use Rattle.au_low.specs.Machines.{Low}
use Rattle.au_stores.specs.Stores.{cells_of}
use Rattle.au_machine.proofs.OrderLemmas.{stays_declared}
use Rattle.au_runs.proofs.ArgumentLemmas.{twice_turned}
use Rattle.au_runs.proofs.arguing.arranged.Goals as goal

pub returns-then-is_declared : goal.returns-then-is_declared
returns-then-is_declared c =
    stays_declared c.args.order.now c.args.values.items
    (sym c.is_declared.ensures ∙ c.if-is_declared.true)
    (omega (arith, c.args.values.ok.0, c.len.ensures, c.if-order-len.true))

pub returns : goal.returns
returns c =
    ap (λ (values : List Low). Some values)
    (twice_turned c.in-Some.cells.items c.reverse.new.self.items c.reverse.ensures.items)
    ∙ ap (option_map cells_of) (sym c.in-Some.is)
    ∙ c.in_ok-cells.ensures
