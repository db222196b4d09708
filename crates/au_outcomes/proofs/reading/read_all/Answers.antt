-- What comes of the files that are left, comes of all.
use Rattle.au_outcomes.proofs.KeptLemmas.{kept_more, halts_more, kept_all}
use Rattle.au_outcomes.proofs.reading.read_all.Goals as goal

pub loop-index-preserved : goal.loop-index-preserved
loop-index-preserved c =
    let all = c.args.all.now in
    let i = c.loop-index.index in
    let bytes = c.index-all-index.result in
    let tree = c.in_ok-tree.tree in (
      kept_more all i bytes c.as_slice.result.now c.loop-index-test.true c.index-all-index.is
          c.as_slice.ensures.value tree c.loop-index.trees.items c.push.new.self.items c.in_ok-push.ensures.items
          c.in_ok-tree.ensures.comes c.loop-index.invariant.0,
      halts_more all i bytes c.as_slice.result.now c.loop-index-test.true c.index-all-index.is
          c.as_slice.ensures.value tree c.in_ok-tree.ensures.comes c.loop-index.invariant.1,
    )

pub returns-clause-comes : goal.returns-clause-comes
returns-clause-comes c =
    kept_all c.args.all.now c.loop-index.index c.loop-index.trees.items c.loop-index-test.false
    c.loop-index.invariant.0
