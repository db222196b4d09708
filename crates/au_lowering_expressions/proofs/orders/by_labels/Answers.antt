use Rattle.std.proofs.Common.{arith, map}
use Rattle.std.proofs.lemmas.Grind.{common_steps}
use Rattle.std.proofs.lemmas.List.{map_more}
use Rattle.std.specs.List.{position_or_len}
use Rattle.std.specs.Str.{bytes_eq}
use Rattle.au_closed_trees.specs.contracts.phase.ClosedTreesPhase.TheImpl.{ghosts as closed}
use Rattle.au_meaning.specs.Expressions.{labels}
use Rattle.au_syntax.specs.Plain.{Bytes}
use Rattle.au_syntax.specs.Views.{argument_all}
use Rattle.au_lowering_expressions.proofs.LoopLemmas.{mapped_step}
use Rattle.au_lowering_expressions.proofs.orders.by_labels.Goals as goal

pub loop-one-preserved : goal.loop-one-preserved
loop-one-preserved c =
    mapped_step (λ (name : Bytes). position_or_len (λ (label : Bytes). bytes_eq label name)
    (labels (argument_all closed c.args.labels.now.items)))
    c.deref-one-items.result.now c.loop-one.one-index c.one-item.result c.loop-one.order.items
    c.push.new.self.items c.in_ok-number.number c.loop-one-test.true c.one-item.is c.loop-one.invariant
    c.in_ok-number.ensures (grind (arith, common_steps))
