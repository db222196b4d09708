use Rattle.std.proofs.Common.{arith}
use Rattle.au_noting.specs.Scopes.{scope_said}
use Rattle.au_noting.proofs.StepLemmas.{misfit_step}
use Rattle.au_noting.proofs.called.first_misfit.Goals as goal

pub returns-then-not-value_fits : goal.returns-then-not-value_fits
returns-then-not-value_fits c =
    grind (
      arith,
      misfit_step (scope_said c.args.scope.now) c.args.s.now c.args.params.now c.loop-index.index
          c.at-one.result.now c.at-one.ensures,
    )

pub loop-index-preserved : goal.loop-index-preserved
loop-index-preserved c =
    grind (
      arith,
      misfit_step (scope_said c.args.scope.now) c.args.s.now c.args.params.now c.loop-index.index
          c.at-one.result.now c.at-one.ensures,
    )
