use Rattle.std.proofs.Common.{◌∙◌, reverse}
use Rattle.au_cells.specs.Cells.{low}
use Rattle.au_machine.proofs.StateLemmas.{slot_is, there}
use Rattle.au_machine.proofs.states.State.held_value.Goals as goal

pub returns-in-Some-clause-is : goal.returns-in-Some-clause-is
returns-in-Some-clause-is c =
    let s = c.args.self.now in
    let back = reverse s.backs.items in
    c.in-Some.ensures ∙ slot_is s.function s.place s.operands s.borrows back s.world c.args.slot

pub returns-in-Some-clause-slots : goal.returns-in-Some-clause-slots
returns-in-Some-clause-slots c =
    let s = c.args.self.now in
    let back = reverse s.backs.items in
    there s.world c.args.slot (low c.in-Some.cell.now) c.in-Some.ensures

pub returns-in-None-clause-is : goal.returns-in-None-clause-is
returns-in-None-clause-is c =
    let s = c.args.self.now in
    let back = reverse s.backs.items in
    c.in-None.ensures ∙ slot_is s.function s.place s.operands s.borrows back s.world c.args.slot
