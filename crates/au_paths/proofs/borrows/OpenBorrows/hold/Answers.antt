use Rattle.au_paths.proofs.LendingLemmas.{hold_turn}
use Rattle.au_paths.proofs.borrows.OpenBorrows.hold.Goals as goal

pub loop-one-preserved : goal.loop-one-preserved
loop-one-preserved c =
    hold_turn c.args.x.now c.as_slice-one-items.result.now c.loop-one.one-index _ c.loop-one-test.true _ _ _
    c.loop-one.invariant c.held_inside-hold.ensures
