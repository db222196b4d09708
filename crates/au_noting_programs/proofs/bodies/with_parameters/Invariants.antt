use Rattle.std.proofs.Common.{◌≡◌, drop, map}
use Rattle.au_typing.specs.Bodies.{with_parameters}
use Rattle.au_noting.specs.Scopes.{scope_said}
use Rattle.au_syntax.specs.contracts.parsed.ParsedPhase.TheImpl.{ghosts as parsed}
use Rattle.au_syntax.specs.Views.{labelled}
use Rattle.au_noting_programs.proofs.bodies.with_parameters.Given as goal

-- the parameters that are left are declared in the scope so far
abbrev pub invariant-loop-one : goal.invariant-loop-one
invariant-loop-one l =
    with_parameters (map (labelled parsed) l.parameters) (scope_said l.fn.scope)
    ≡ with_parameters (map (labelled parsed) (drop l.one-index l.parameters)) (scope_said l.scope)
