use Rattle.au_type_texts.proofs.SizeLemmas.{raised, depth_more}
use Rattle.au_type_texts.proofs.limits.+depth.Goals as goal

pub arguments_depth-loop-one-preserved : goal.arguments_depth-loop-one-preserved
arguments_depth-loop-one-preserved t c =
    let more = depth_more c.deref-one-items.result.now c.loop-one.one-index c.one-item.result
    c.loop-one-test.true c.one-item.is in
    raised _ _ _ _ _ _ c.loop-one.invariant c.argument_depth-depth.ensures c.greater-deepest.ensures more
