use Rattle.std.proofs.Common.{arith}
use Rattle.au_noting.proofs.StepLemmas.{unfixed_step}
use Rattle.au_noting.proofs.called.first_unfixed.Goals as goal

pub returns-then-not-is_fixed : goal.returns-then-not-is_fixed
returns-then-not-is_fixed c =
    grind (arith, unfixed_step c.args.s.now c.args.params.now c.loop-index.index c.at-one.result.now c.at-one.ensures)

pub loop-index-preserved : goal.loop-index-preserved
loop-index-preserved c =
    grind (arith, unfixed_step c.args.s.now c.args.params.now c.loop-index.index c.at-one.result.now c.at-one.ensures)
