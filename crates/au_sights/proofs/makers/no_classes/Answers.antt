use Rattle.std.proofs.Common.{◌<◌, length, arith}
use Rattle.au_sights.proofs.MakerLemmas.{no_classes_next}
use Rattle.au_sights.proofs.makers.no_classes.Goals as goal

pub loop-index-preserved : goal.loop-index-preserved
loop-index-preserved c =
    let less : c.loop-index.index < length c.args.params.now = omega arith in
    no_classes_next c.args.params.now c.loop-index.index c.loop-index.classes.items c.push.new.self.items
    c.new-none.result less c.new-none.ensures c.in_ok-push.ensures.items c.loop-index.invariant
