use Rattle.au_graphs.specs.Marks.{IsMarked}
use Rattle.au_caps_text.specs.Putting.{IsPut}
use Rattle.au_caps_text.proofs.PutLemmas.{Below}
use Rattle.au_caps_text.proofs.spreading.put_label.Given as goal

-- the nodes so far
abbrev pub invariant-loop-node : goal.invariant-loop-node
invariant-loop-node l = IsPut (Below (IsMarked l.marks) l.node) l.label l.fn.made l.made
