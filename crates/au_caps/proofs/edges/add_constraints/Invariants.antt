use Rattle.std.proofs.Common.{[], take}
use Rattle.au_caps.specs.Views.{Grows}
use Rattle.au_caps.specs.Webs.{constraint_arcs}
use Rattle.au_caps.proofs.edges.add_constraints.Given as goal

-- the arcs so far
abbrev pub invariant-loop-other : goal.invariant-loop-other
invariant-loop-other l = Grows (constraint_arcs l.class l.one (take l.other-index l.others)) [] l.fn.web l.web
