use Rattle.std.proofs.Common.{◌≡◌, true, false, ap, ◌∙◌, Some}
use Rattle.std.specs.Str.{bytes_eq}
use Rattle.au_judged_types.proofs.BoundLemmas.{found_here, not_here}
use Rattle.au_judged_types.proofs.bounds.classes_in.Goals as goal

pub returns-then-eq : goal.returns-then-eq
returns-then-eq c =
    let named : bytes_eq c.at.result.now.name c.args.name.now ≡ true = cc in
    ap Some c.as_slice.ensures
    ∙ found_here c.args.params.now c.args.classes.now.items c.deref-one-items.result.now c.args.name.now
    c.loop-index.index c.at.result.now c.one-item.result
    c.loop-index.invariant.rest c.at.ensures c.deref-one-items.ensures.value c.loop-index-test.true c.one-item.is named

pub loop-index-preserved : goal.loop-index-preserved
loop-index-preserved c =
    let other : bytes_eq c.at.result.now.name c.args.name.now ≡ false = cc in
    record {
      lengths = c.loop-index.invariant.lengths;
      rest =
          not_here c.args.params.now c.args.classes.now.items c.deref-one-items.result.now c.args.name.now
          c.loop-index.index c.at.result.now c.one-item.result
          c.loop-index.invariant.rest c.at.ensures c.deref-one-items.ensures.value c.loop-index-test.true
          c.one-item.is other;
    }
