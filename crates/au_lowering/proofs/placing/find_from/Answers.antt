use Rattle.std.proofs.Common.{◌<◌, length, drop, sym, ◌∙◌, arith}
use Rattle.au_type_texts.specs.Views.{closed_meaning}
use Rattle.au_closed_meanings.specs.Programs.{row_in}
use Rattle.au_lowering.specs.Views.{rows_held}
use Rattle.au_lowering.proofs.PlaceLemmas.{found_behind, found_here}
use Rattle.au_lowering.proofs.placing.find_from.Goals as goal

pub returns-then-is_same : goal.returns-then-is_same
returns-then-is_same c =
    let items = c.args.rows.now.items in
    let below : c.loop-at.at < length items =
    omega (arith, c.loop-at-test.true, c.len-at-end.ensures, c.args.rows.now.ok.0) in
    found_here items c.loop-at.at c.index-one.result.now (closed_meaning c.args.of.now)
    (row_in (drop c.args.place (rows_held items)) (closed_meaning c.args.of.now)) below c.index-one.ensures
    (sym c.is_same.ensures.test ∙ c.if-is_same.true) c.loop-at.invariant

pub loop-at-preserved : goal.loop-at-preserved
loop-at-preserved c =
    let items = c.args.rows.now.items in
    let below : c.loop-at.at < length items =
    omega (arith, c.loop-at-test.true, c.len-at-end.ensures, c.args.rows.now.ok.0) in
    found_behind items c.loop-at.at c.index-one.result.now (closed_meaning c.args.of.now)
    (row_in (drop c.args.place (rows_held items)) (closed_meaning c.args.of.now)) below c.index-one.ensures
    (sym c.is_same.ensures.test ∙ c.if-is_same.false) c.loop-at.invariant
