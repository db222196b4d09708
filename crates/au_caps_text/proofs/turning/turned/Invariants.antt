use Rattle.au_caps_text.proofs.TurnLemmas.{TurnedTo}
use Rattle.au_caps_text.proofs.turning.turned.Given as goal

-- the nodes so far
abbrev pub invariant-loop-node : goal.invariant-loop-node
invariant-loop-node l = TurnedTo l.graph l.made l.node
