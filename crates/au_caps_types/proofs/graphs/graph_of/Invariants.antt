use Rattle.std.proofs.Common.{◌≡◌}
use Rattle.au_formed.specs.Graphs.{index_at}
use Rattle.au_formed.proofs.DeclarerLemmas.{partly}
use Rattle.au_caps_types.proofs.graphs.graph_of.Given as goal

-- the edges of the nodes that are visited are there
abbrev pub invariant-loop-index : goal.invariant-loop-index
invariant-loop-index l = l.graph ≡ partly (index_at l.table) l.one-items l.index
