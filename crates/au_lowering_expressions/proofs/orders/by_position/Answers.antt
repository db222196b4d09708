use Rattle.std.proofs.Common.{arith}
use Rattle.std.proofs.lemmas.Grind.{common_steps}
use Rattle.au_lowering_expressions.proofs.LoopLemmas.{numbers_step}
use Rattle.au_lowering_expressions.proofs.orders.by_position.Goals as goal

pub loop-number-preserved : goal.loop-number-preserved
loop-number-preserved c =
    numbers_step c.args.parameters.now.items c.loop-number.number c.loop-number.order.items
    c.push.new.self.items
    c.in_ok-number.number (grind (arith, common_steps)) c.loop-number.invariant c.in_ok-number.ensures
    (grind (arith, common_steps))
