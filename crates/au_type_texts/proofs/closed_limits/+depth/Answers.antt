use Rattle.au_type_texts.proofs.SizeLemmas.{raised}
use Rattle.au_type_texts.proofs.ClosedSizeLemmas.{depth_more}
use Rattle.au_type_texts.proofs.closed_limits.+depth.Goals as goal

pub list_depth-loop-one-preserved : goal.list_depth-loop-one-preserved
list_depth-loop-one-preserved t c =
    let more = depth_more c.deref-one-items.result.now c.loop-one.one-index c.one-item.result
    c.loop-one-test.true c.one-item.is in
    raised _ _ _ _ _ _ c.loop-one.invariant c.depth-depth.ensures c.greater-deepest.ensures more
