use Rattle.std.proofs.Common.{arith}
use Rattle.au_modules.proofs.PartLemmas as lemmas
use Rattle.au_modules.proofs.gathering.given_all.Goals as goal

pub loop-one-preserved : goal.loop-one-preserved
loop-one-preserved c =
    let more = lemmas.given_more c.deref-one-items.result.now c.loop-one.one-index c.one-item.result
    c.loop-one-test.true c.one-item.is in
    grind (arith, more)
