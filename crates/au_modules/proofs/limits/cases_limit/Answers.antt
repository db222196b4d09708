use Rattle.std.proofs.Common.{arith}
use Rattle.au_modules.proofs.LimitLemmas as lemmas
use Rattle.au_modules.proofs.limits.cases_limit.Goals as goal

pub returns-in-Some : goal.returns-in-Some
returns-in-Some g c =
    let step = lemmas.cases_step g.P.Phase c.deref-one-items.result.now c.loop-index.index c.one-item.result
    c.loop-index-test.true in
    grind (
      arith,
      lemmas.or_some,
      lemmas.or_none,
      step,
      c.loop-index.invariant,
      c.deref-one-items.ensures.value,
      c.one-item.is,
    )

pub loop-index-preserved : goal.loop-index-preserved
loop-index-preserved g c =
    let step = lemmas.cases_step g.P.Phase c.deref-one-items.result.now c.loop-index.index c.one-item.result
    c.loop-index-test.true in
    grind (
      arith,
      lemmas.or_some,
      lemmas.or_none,
      step,
      c.loop-index.invariant,
      c.deref-one-items.ensures.value,
      c.one-item.is,
    )
