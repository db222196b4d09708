use Rattle.std.proofs.Common.{arith}
use Rattle.au_syntax.specs.Plain.{plain_method}
use Rattle.au_syntax.specs.Views.{method_body}
use Rattle.au_modules.specs.Limits as spec
use Rattle.au_modules.proofs.LimitLemmas as lemmas
use Rattle.au_modules.proofs.limits.methods_limit.Goals as goal

pub returns-in-Some : goal.returns-in-Some
returns-in-Some g c =
    let step = lemmas.counted_step spec.counted_method (plain_method g.P.Phase.name_bytes)
    (method_body g.P.Phase) c.deref-one-items.result.now c.loop-one.one-index c.one-item.result
    c.loop-one-test.true in
    let own = lemmas.method_counts g.P.Phase c.one-item.result in
    grind (
      arith,
      lemmas.or_some,
      lemmas.or_none,
      step,
      own,
      c.loop-one.invariant,
      c.deref-one-items.ensures.value,
      c.one-item.is,
    )

pub loop-one-preserved : goal.loop-one-preserved
loop-one-preserved g c =
    let step = lemmas.counted_step spec.counted_method (plain_method g.P.Phase.name_bytes)
    (method_body g.P.Phase) c.deref-one-items.result.now c.loop-one.one-index c.one-item.result
    c.loop-one-test.true in
    let own = lemmas.method_counts g.P.Phase c.one-item.result in
    grind (
      arith,
      lemmas.or_some,
      lemmas.or_none,
      step,
      own,
      c.loop-one.invariant,
      c.deref-one-items.ensures.value,
      c.one-item.is,
    )
