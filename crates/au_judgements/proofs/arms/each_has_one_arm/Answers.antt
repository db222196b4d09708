use Rattle.std.proofs.Common.{arith, map}
use Rattle.std.specs.Option.{option_copied}
use Rattle.au_judgements.proofs.StepLemmas.{arm_step}
use Rattle.au_judgements.proofs.arms.each_has_one_arm.Goals as goal

pub returns-then-not-has_one_arm : goal.returns-then-not-has_one_arm
returns-then-not-has_one_arm c =
    grind (
      arith,
      arm_step (map option_copied c.args.all_meant.now) c.args.all.now
          c.loop-one.one-index c.one-item.result c.loop-one-test.true c.one-item.is,
    )
