use Rattle.std.proofs.Common.{arith}
use Rattle.au_noting.specs.Said.{labels_said}
use Rattle.au_noting_expressions.proofs.ParameterLemmas.{named_step}
use Rattle.au_noting_expressions.proofs.argument_types.each_is_named_once.Goals as goal

pub returns-then-not-is_named_once : goal.returns-then-not-is_named_once
returns-then-not-is_named_once c =
    grind (
      arith,
      named_step (labels_said c.args.args.now) c.args.params.now c.loop-one.one-index
          c.one-item.result c.loop-one-test.true c.one-item.is,
    )
