use Rattle.std.proofs.Common.{◌∙◌, reverse}
use Rattle.au_machine.proofs.WorldLemmas.{opened_is, lent_is}
use Rattle.au_machine.proofs.states.State.lend.Goals as goal

pub returns-clause-new : goal.returns-clause-new
returns-clause-new c =
    let s = c.args.self.now in
    let back = reverse s.backs.items in
    opened_is s.function s.place s.operands s.borrows back s.world c.open.new.self _ c.in_ok-borrow.borrow
    c.in_ok-borrow.ensures.borrow c.in_ok-borrow.ensures.world c.in_ok-borrow.ensures.frame
    c.in_ok-push.ensures.ok

pub returns-clause-cell : goal.returns-clause-cell
returns-clause-cell c =
    let s = c.args.self.now in
    let back = reverse s.backs.items in
    c.in_ok-cell.ensures ∙ lent_is s.function s.place s.operands s.borrows back s.world _ _
    c.in_ok-borrow.ensures.borrow
