use Rattle.au_closing.specs.Bodies.{is_method}
use Rattle.au_sights.specs.contracts.noted.NotedPhase.TheImpl.{ghosts as noted}
use Rattle.au_syntax.specs.Views.{method_body}
use Rattle.au_closed_programs.proofs.FindingLemmas.{NoneYet}
use Rattle.au_closed_programs.proofs.bodies.method_named.Given as goal

-- none so far has the name
abbrev pub invariant-loop-one : goal.invariant-loop-one
invariant-loop-one l = NoneYet (method_body noted) (is_method l.name) l.one-items l.one-index
