use Rattle.std.proofs.Common.{◌≡◌, ◌++◌, ◌<◌, length, set, take}
use Rattle.std.specs.List.{filter_map}
use Rattle.au_graphs.specs.Cycles.{successors}
use Rattle.au_formed.specs.Graphs.{index_at}
use Rattle.au_caps_types.proofs.graphs.add_edges.Given as goal

-- the edges to the types that are visited are there
abbrev pub invariant-loop-one : goal.invariant-loop-one
invariant-loop-one l = record {
  within : l.from < length l.graph;
  graph : l.graph ≡ set l.fn.graph l.from
      (successors l.fn.graph l.from ++ filter_map (index_at l.table) (take l.one-index l.names));
}
