use Rattle.std.proofs.Common.{take}
use Rattle.std.specs.List.{All}
use Rattle.au_graphs.specs.Marks.{IsMarked}
use Rattle.au_graphs.proofs.peeling.passed_on.Given as goal

-- the nodes so far are done
abbrev pub invariant-loop-at : goal.invariant-loop-at
invariant-loop-at l = All (IsMarked l.done) (take l.at l.nodes)
