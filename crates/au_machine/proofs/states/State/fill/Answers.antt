use Rattle.std.proofs.Common.{◌∙◌, reverse}
use Rattle.std.specs.Option.{option_map}
use Rattle.au_cells.specs.Cells.{low}
use Rattle.au_machine.proofs.StateLemmas.{world_changed, slot_set_is, slot_is}
use Rattle.au_machine.proofs.states.State.fill.Goals as goal

pub returns-clause-new : goal.returns-clause-new
returns-clause-new c =
    let s = c.args.self.now in
    let back = reverse s.backs.items in
    world_changed s.function s.place s.operands s.borrows back s.world c.set_slot.new.self _
    c.set_slot.ensures.world c.set_slot.ensures.frame
    ∙ slot_set_is s.function s.place s.operands s.borrows back s.world c.args.slot
    (option_map low c.args.held_value)

pub returns-clause-old : goal.returns-clause-old
returns-clause-old c =
    let s = c.args.self.now in
    let back = reverse s.backs.items in
    c.set_slot.ensures.old ∙ slot_is s.function s.place s.operands s.borrows back s.world c.args.slot
