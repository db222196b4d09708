use Rattle.au_sights.proofs.MakerLemmas.{arguments_next}
use Rattle.au_sights.proofs.makers.as_arguments.Goals as goal

pub loop-index-preserved : goal.loop-index-preserved
loop-index-preserved c =
    arguments_next c.args.params.now c.loop-index.index c.at.result.now c.loop-index.args.items
    c.push.new.self.items c.in_ok-one.one c.at.ensures c.in_ok-one.ensures c.in_ok-push.ensures.items
    c.loop-index.invariant
