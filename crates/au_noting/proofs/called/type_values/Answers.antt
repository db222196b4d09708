use Rattle.std.proofs.Common.{arith}
use Rattle.std.proofs.lemmas.List.{append_assoc}
use Rattle.au_noting.proofs.StepLemmas.{values_step}
use Rattle.au_noting.proofs.called.type_values.Goals as goal

pub loop-index-preserved : goal.loop-index-preserved
loop-index-preserved c =
    grind (
      arith,
      append_assoc,
      values_step c.args.s.now c.args.params.now c.loop-index.index c.at.result.now
          c.at.ensures,
    )
