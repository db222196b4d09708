use Rattle.std.proofs.Common.{arith}
use Rattle.au_syntax.specs.Plain.{plain_declaration}
use Rattle.au_syntax.specs.Views.{declaration}
use Rattle.au_modules.specs.Limits as spec
use Rattle.au_modules.proofs.LimitLemmas as lemmas
use Rattle.au_modules.proofs.limits.limit_in.Goals as goal

pub returns-in-Some : goal.returns-in-Some
returns-in-Some g c =
    let step = lemmas.counted_step spec.counted (plain_declaration g.P.Phase.name_bytes)
    (declaration g.P.Phase) c.deref-one-items.result.now c.loop-one.one-index c.one-item.result
    c.loop-one-test.true in
    let own = lemmas.declaration_counts g.P.Phase c.one-item.result in
    grind (
      arith,
      lemmas.or_some,
      lemmas.or_none,
      step,
      own,
      c.loop-one.invariant,
      c.deref-one-items.ensures.value,
      c.one-item.is,
    )

pub loop-one-preserved : goal.loop-one-preserved
loop-one-preserved g c =
    let step = lemmas.counted_step spec.counted (plain_declaration g.P.Phase.name_bytes)
    (declaration g.P.Phase) c.deref-one-items.result.now c.loop-one.one-index c.one-item.result
    c.loop-one-test.true in
    let own = lemmas.declaration_counts g.P.Phase c.one-item.result in
    grind (
      arith,
      lemmas.or_some,
      lemmas.or_none,
      step,
      own,
      c.loop-one.invariant,
      c.deref-one-items.ensures.value,
      c.one-item.is,
    )
