use Rattle.std.proofs.Common.{◌≡◌, [], replicate}
use Rattle.au_graphs.specs.Lists.{lists_in}
use Rattle.au_graphs.proofs.graphs.Graph.new.Given as goal

-- so many nodes are there
abbrev pub invariant-loop-node : goal.invariant-loop-node
invariant-loop-node l = lists_in l.lists.items ≡ replicate l._node []
