use Rattle.std.proofs.Common.{◌++◌, set, ap, ◌∙◌}
use Rattle.std.specs.List.{filter_map}
use Rattle.au_graphs.specs.Cycles.{successors}
use Rattle.au_formed.specs.Graphs.{index_at}
use Rattle.au_formed.proofs.DeclarerLemmas.{graph_more}
use Rattle.au_caps_types.proofs.graphs.graph_of.Goals as goal

pub loop-index-preserved : goal.loop-index-preserved
loop-index-preserved c =
    let f = index_at c.args.table.now in
    let i = c.loop-index.index in
    let graph = c.loop-index.graph in
    c.in_ok-add_edges.ensures
    ∙ ap (λ names. set graph i (successors graph i ++ filter_map f names)) c.as_slice.ensures
    ∙ ap (λ g. set g i (successors g i ++ filter_map f c.one-item.result.names)) c.loop-index.invariant
    ∙ graph_more f c.deref-one-items.result.now i c.one-item.result c.loop-index-test.true c.one-item.is
