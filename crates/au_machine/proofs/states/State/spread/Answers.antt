use Rattle.std.proofs.Common.{reverse}
use Rattle.au_cells.specs.Cells.{lows}
use Rattle.au_machine.proofs.WorldLemmas.{spread_apart}
use Rattle.au_machine.proofs.states.State.spread.Goals as goal

pub returns-clause-is : goal.returns-clause-is
returns-clause-is c =
    let s = c.args.self.now in
    let back = reverse s.backs.items in
    spread_apart s.function s.place s.operands s.borrows back c.in_ok-done.done s.world c.take_apart.new.self
    c.args.slot (lows c.args.fields.items) c.args.how c.in_ok-done.ensures.world c.in_ok-done.ensures.frame
