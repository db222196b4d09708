use Rattle.std.proofs.Common.{◌∙◌, reverse}
use Rattle.au_machine.proofs.StateLemmas.{has_slot_is}
use Rattle.au_machine.proofs.states.State.has.Goals as goal

pub returns-clause-is : goal.returns-clause-is
returns-clause-is c =
    let s = c.args.self.now in
    let back = reverse s.backs.items in
    c.has_slot.ensures.world ∙ has_slot_is s.function s.place s.operands s.borrows back s.world c.args.slot
