use Rattle.au_type_texts.proofs.SizeLemmas.{summed, nodes_more}
use Rattle.au_type_texts.proofs.limits.+nodes.Goals as goal

pub arguments_nodes-loop-one-preserved : goal.arguments_nodes-loop-one-preserved
arguments_nodes-loop-one-preserved t c =
    let more = nodes_more c.deref-one-items.result.now c.loop-one.one-index c.one-item.result
    c.loop-one-test.true c.one-item.is in
    summed _ _ _ _ _ _ c.loop-one.invariant c.argument_nodes-more.ensures c.sum-count.ensures more
