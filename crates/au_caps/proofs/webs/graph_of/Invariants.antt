use Rattle.std.proofs.Common.{take}
use Rattle.au_caps.specs.Webs.{IsGraphOf}
use Rattle.au_caps.proofs.webs.graph_of.Given as goal

-- the edges so far
abbrev pub invariant-loop-one : goal.invariant-loop-one
invariant-loop-one l = IsGraphOf l.nodes (take l.one-index l.pairs) l.graph
