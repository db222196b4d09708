use Rattle.std.proofs.Common.{get_or, None, refl}
use Rattle.au_classes.proofs.MarkLemmas.{none_marked, mark_next, mark_all}
use Rattle.au_classes.proofs.marks.marks_of.Goals as goal

pub loop-one-init : goal.loop-one-init
loop-one-init c = none_marked c.args.count c.in_ok-marks.marks.items c.in_ok-marks.ensures

pub loop-one-preserved : goal.loop-one-preserved
loop-one-preserved c =
    mark_next c.deref-one-items.result.now c.args.count c.loop-one.marks.items c.mark.new.marks.items
    c.loop-one.one-index (get_or c.deref-one-items.result.now c.loop-one.one-index None) None
    c.loop-one-test.true refl c.loop-one.invariant c.mark.ensures

pub returns : goal.returns
returns c =
    mark_all c.args.some.now.items c.deref-one-items.result.now c.args.count c.loop-one.marks.items
    c.loop-one.one-index c.deref-one-items.ensures.value c.loop-one-test.false c.loop-one.invariant
