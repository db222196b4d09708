use Rattle.au_sights.proofs.ArgumentLemmas.{put_all, put_next, put_none}
use Rattle.au_sights.proofs.arguments.with_arguments.Goals as goal

pub loop-index-preserved : goal.loop-index-preserved
loop-index-preserved c =
    put_next c.args.params.now c.deref-one-items.result.now c.loop-index.index c.one-item.result
    c.loop-index.s c.put_argument.new.s c.loop-index-test.true c.one-item.is c.in_ok-put_argument.ensures
    c.loop-index.invariant

pub returns : goal.returns
returns c =
    put_all c.args.params.now c.args.args.now.items c.deref-one-items.result.now c.loop-index.index
    c.loop-index.s c.deref-one-items.ensures.value c.loop-index-test.false c.loop-index.invariant

pub loop-index-init : goal.loop-index-init
loop-index-init c = put_none c.args.params.now c.deref-one-items.result.now c.new-s.result c.new-s.ensures
