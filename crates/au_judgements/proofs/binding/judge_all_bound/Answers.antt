use Rattle.std.proofs.Common.{arith}
use Rattle.au_noting.specs.Said.{all_typed}
use Rattle.au_noting.specs.Scopes.{scope_said}
use Rattle.au_judgements.proofs.StepLemmas.{bound_step}
use Rattle.au_judgements.proofs.binding.judge_all_bound.Goals as goal

pub returns-in_err-judge_one : goal.returns-in_err-judge_one
returns-in_err-judge_one c =
    grind (
      arith,
      bound_step (scope_said c.args.scope.now) (all_typed c.args.fields.now) c.args.binds.now
          c.loop-bind.bind-index c.bind-item.result c.loop-bind-test.true c.bind-item.is,
    )

pub loop-bind-preserved : goal.loop-bind-preserved
loop-bind-preserved c =
    grind (
      arith,
      bound_step (scope_said c.args.scope.now) (all_typed c.args.fields.now) c.args.binds.now
          c.loop-bind.bind-index c.bind-item.result c.loop-bind-test.true c.bind-item.is,
    )
