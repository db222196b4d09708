use Rattle.std.proofs.Common.{◌∙◌, ap}
use Rattle.au_graphs.specs.Lists.{lists_in}
use Rattle.au_graphs.proofs.GraphLemmas.{node_view}
use Rattle.au_graphs.proofs.graphs.Graph.new.Goals as goal

pub loop-node-preserved : goal.loop-node-preserved
loop-node-preserved c =
    ap lists_in c.in_ok-push.ensures.items ∙ node_view c.loop-node.lists.items c.loop-node._node c.new.result
    c.loop-node.invariant c.new.ensures.items
