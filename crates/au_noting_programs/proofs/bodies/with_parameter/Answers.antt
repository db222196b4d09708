use Rattle.au_noting.specs.Scopes.{scope_said}
use Rattle.au_syntax.specs.contracts.parsed.ParsedPhase.TheImpl.{ghosts as parsed}
use Rattle.au_syntax.specs.Views.{labelled}
use Rattle.au_types.specs.Views.{meaning}
use Rattle.au_noting_programs.proofs.StepLemmas.{parameter_declared}
use Rattle.au_noting_programs.proofs.bodies.with_parameter.Goals as goal

pub returns : goal.returns
returns c =
    parameter_declared (labelled parsed c.args.one.now) (scope_said c.args.scope.now)
    (scope_said c.declare.new.self) c.in_ok-name.name (meaning c.in_ok-of.of)
    c.in_ok-of.ensures c.in_ok-name.ensures c.in_ok-declare.ensures.ok
