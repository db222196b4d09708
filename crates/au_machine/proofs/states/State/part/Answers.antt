use Rattle.std.proofs.Common.{◌∙◌, reverse}
use Rattle.au_machine.proofs.StateLemmas.{part_at_is}
use Rattle.au_machine.proofs.states.State.part.Goals as goal

pub returns : goal.returns
returns c =
    let s = c.args.self.now in
    let back = reverse s.backs.items in
    c.slot_part.ensures ∙ part_at_is s.function s.place s.operands s.borrows back s.world c.args.slot
    c.args.path.now
