use Rattle.std.proofs.Common.{ℕ, ◌<◌}
use Rattle.au_graphs.specs.Cycles.{IsOnCycle}
use Rattle.au_graphs.proofs.cycles.first_on_cycle.Given as goal

-- no node so far lies on a cycle
abbrev pub invariant-loop-node : goal.invariant-loop-node
invariant-loop-node l = (j : ℕ) → j < l.node → ¬ IsOnCycle l.graph j
