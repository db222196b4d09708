use Rattle.std.proofs.Common.{arith}
use Rattle.au_graphs.proofs.GraphLemmas.{edge_view}
use Rattle.au_graphs.proofs.graphs.Graph.add_edge.Goals as goal

pub returns-in_ok-push : goal.returns-in_ok-push
returns-in_ok-push c =
    edge_view c.self.inside.lists.items c.args.self.now c.args.from c.args.to c.index_mut.result.now
    c.push.new.self c.self.view_is (omega arith) c.index_mut.ensures.value c.in_ok-push.ensures.items
