use Rattle.au_type_texts.proofs.SizeLemmas.{summed}
use Rattle.au_type_texts.proofs.ClosedSizeLemmas.{nodes_more}
use Rattle.au_type_texts.proofs.closed_limits.+nodes.Goals as goal

pub list_nodes-loop-one-preserved : goal.list_nodes-loop-one-preserved
list_nodes-loop-one-preserved t c =
    let more = nodes_more c.deref-one-items.result.now c.loop-one.one-index c.one-item.result
    c.loop-one-test.true c.one-item.is in
    summed _ _ _ _ _ _ c.loop-one.invariant c.nodes-more.ensures c.sum-count.ensures more
