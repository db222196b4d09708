use Rattle.std.proofs.Common.{take}
use Rattle.au_graphs.specs.Marks.{Entered}
use Rattle.au_caps_text.proofs.searching.enter_all.Given as goal

-- the nodes so far were entered
abbrev pub invariant-loop-node : goal.invariant-loop-node
invariant-loop-node l = Entered (take l.node-index l.nodes) l.fn.seen.items l.fn.work.items l.seen.items l.work.items
