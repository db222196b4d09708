use Rattle.std.proofs.Common.{length, ap, ◌∙◌, arith}
use Rattle.au_types.specs.Views.{argument, meaning}
use Rattle.au_types.proofs.TypeLemmas.{region_argument_means, type_argument_means}
use Rattle.au_instances.proofs.WalkLemmas.{region_left, type_left}
use Rattle.au_instances.proofs.closed.type_count.Goals as goal
use Rattle.au_instances.proofs.closed.type_count.Goals.{in-Of, in-In}

pub loop-one-preserved : goal.loop-one-preserved
loop-one-preserved c =
    let all = c.args.args.now in
    let i = c.loop-one.one-index in
    let before = c.loop-one.invariant in
    elim c.match-one.branch [
      | in-Of w ↦
          let left = ap length (type_left all i c.one-item.result (meaning w.in-Of.field-0)
          c.loop-one-test.true c.one-item.is (ap argument w.in-Of.is ∙ type_argument_means w.in-Of.field-0))
          in
          record { few = omega (arith, before.few, w.count-is); rest = omega (arith, before.rest, left, w.count-is) }
      | in-In w ↦
          let left = ap length (region_left all i c.one-item.result w.in-In.field-0 c.loop-one-test.true
          c.one-item.is (ap argument w.in-In.is ∙ region_argument_means w.in-In.field-0)) in
          record { few = omega (arith, before.few, w.count-is); rest = omega (arith, before.rest, left, w.count-is) }
    ]
