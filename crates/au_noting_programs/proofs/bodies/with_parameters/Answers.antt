use Rattle.au_noting.specs.Scopes.{scope_said}
use Rattle.au_syntax.specs.contracts.parsed.ParsedPhase.TheImpl.{ghosts as parsed}
use Rattle.au_syntax.specs.Views.{labelled}
use Rattle.au_noting_programs.proofs.StepLemmas.{parameters_more}
use Rattle.au_noting_programs.proofs.bodies.with_parameters.Goals as goal

pub loop-one-preserved : goal.loop-one-preserved
loop-one-preserved c =
    parameters_more (labelled parsed) _ c.args.parameters.now c.loop-one.one-index c.one-item.result
    (scope_said c.loop-one.scope) (scope_said c.with_parameter.new.scope)
    c.loop-one.invariant c.loop-one-test.true c.one-item.is c.in_ok-with_parameter.ensures
