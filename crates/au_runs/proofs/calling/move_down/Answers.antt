use Rattle.std.proofs.Common.{arith}
use Rattle.au_runs.proofs.MovingLemmas.{moving_first, moving_on}
use Rattle.au_runs.proofs.calling.move_down.Goals as goal

pub moving-init : goal.moving-init
moving-init c = moving_first c.args.count c.args.operands.now c.args.slots.now

pub moving-preserved : goal.moving-preserved
moving-preserved c =
    let loop = c.moving in
    moving_on c.args.count c.args.operands.now c.args.slots.now loop.left loop.operands loop.slots
    loop.invariant c.pop.new.self c.put.new.slots c.in-Some.cell (omega (arith, c.moving-test.true)) c.requires.slots
    c.in-Some.ensures.0 c.in-Some.ensures.1 c.put.ensures
