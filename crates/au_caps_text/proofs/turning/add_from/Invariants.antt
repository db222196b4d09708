use Rattle.std.proofs.Common.{take}
use Rattle.au_caps_text.specs.Turning.{AreAdded}
use Rattle.au_caps_text.proofs.turning.add_from.Given as goal

-- the nodes so far
abbrev pub invariant-loop-one : goal.invariant-loop-one
invariant-loop-one l = AreAdded (take l.one-index l.nodes) l.to l.fn.made l.made
