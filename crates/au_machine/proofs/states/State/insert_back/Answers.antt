use Rattle.std.proofs.Common.{reverse}
use Rattle.au_machine.proofs.ShippedLemmas.{answered_in}
use Rattle.au_machine.proofs.StateLemmas.{come_to}
use Rattle.au_machine.proofs.states.State.insert_back.Goals as goal

pub returns-clause-is : goal.returns-clause-is
returns-clause-is c =
    let s = c.args.self.now in
    let own = reverse s.backs.items in
    come_to c.answer.result c.answer.new.self _ _
    (answered_in s.function s.place s.operands s.borrows own s.world c.insert_back.new.self _ _
    c.in_ok-one.ensures.does c.in_ok-one.ensures.frame) c.answer.ensures.is
