-- What comes of the files that are left, comes of all.
use Rattle.std.proofs.Common.{◌≡◌, ◌++◌, arith}
use Rattle.std.proofs.lemmas.Grind.{common_steps}
use Rattle.au_outcomes.proofs.LaidLemmas.{halts_past, laid_all, laid_more}
use Rattle.au_outcomes.proofs.layouts.lay_out_all.Goals as goal

pub loop-index-preserved : goal.loop-index-preserved
loop-index-preserved c =
    let all = c.args.all.now in
    let i = c.loop-index.index in
    let bytes = c.index-all-index.result in
    let one = c.in_ok-one.one.items in
    let added : c.extend_from_slice.new.self.items ≡ c.loop-index.text.items ++ one = grind (arith, common_steps) in (
      laid_more all i bytes c.as_slice.result.now c.loop-index-test.true c.index-all-index.is
          c.as_slice.ensures.value one c.loop-index.text.items c.extend_from_slice.new.self.items
          added
          c.in_ok-one.ensures.comes c.loop-index.invariant.0,
      halts_past all i bytes c.as_slice.result.now c.loop-index-test.true c.index-all-index.is
          c.as_slice.ensures.value one c.in_ok-one.ensures.comes c.loop-index.invariant.1,
    )

pub returns-clause-comes : goal.returns-clause-comes
returns-clause-comes c =
    laid_all c.args.all.now c.loop-index.index c.loop-index.text.items c.loop-index-test.false
    c.loop-index.invariant.0
