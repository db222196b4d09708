use Rattle.std.proofs.Common.{arith}
use Rattle.au_judgements.specs.Said.{binds_said, fields_bound}
use Rattle.au_judgements.proofs.StepLemmas.{once_step}
use Rattle.au_judgements.proofs.binding.each_is_bound_once.Goals as goal

pub returns-then-not-is_bound_once : goal.returns-then-not-is_bound_once
returns-then-not-is_bound_once c =
    grind (
      arith,
      once_step (fields_bound (binds_said c.args.binds.now)) c.args.fields.now
          c.loop-one.one-index c.one-item.result c.loop-one-test.true c.one-item.is,
    )
