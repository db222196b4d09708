use Rattle.std.proofs.Common.{reverse}
use Rattle.au_runs.proofs.MovingLemmas.{begun_moving}
use Rattle.au_runs.proofs.calling.begin_moving.Goals as goal

pub returns-clause-is : goal.returns-clause-is
returns-clause-is c =
    let s = c.args.state.now in
    begun_moving s.function s.place s.operands c.move_down.new.operands s.borrows (reverse s.backs.items)
    s.world c.args.number c.args.function.now c.args.order.now c.begin_slots.new.slots c.move_down.new.slots
    c.begin_piles.new.operands c.begin_piles.new.borrows (reverse c.note_back.new.backs.items)
    c.requires.order c.requires.slots c.in_ok-begin_slots.ensures c.move_down.ensures
    c.in_ok-begin_piles.ensures.operands c.in_ok-begin_piles.ensures.borrows c.in_ok-note_back.ensures
