use Rattle.std.proofs.lemmas.Result.{IfOk-weaker}
use Rattle.au_caps_text.specs.Spreading.{AreSpread}
use Rattle.au_formed.specs.Graphs.{graph_by, index_at}
use Rattle.au_caps_types.proofs.ReachLemmas.{spread_same}
use Rattle.au_caps_types.proofs.reached.reached_by.Goals as goal

pub returns : goal.returns
returns c =
    let f = index_at c.args.table.now in
    let graph = c.in_ok-graph.graph in
    let labels = c.in_ok-labels.labels in
    let ns = c.args.namings.now.items in
    let hs = c.args.heads.now.items in
    IfOk-weaker c.spread.result (AreSpread graph labels) (AreSpread (graph_by f ns) (graph_by f hs))
    (λ made spread. spread_same graph (graph_by f ns) labels (graph_by f hs) made c.in_ok-graph.ensures
    c.in_ok-labels.ensures spread) c.spread.ensures
