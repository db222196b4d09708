use Rattle.std.proofs.Common.{◌<◌, ◌≤◌, length, ap, sym, ◌∙◌, arith}
use Rattle.au_instances.specs.Rows.{rows_said}
use Rattle.au_classes.proofs.KnownLemmas.{place_end, place_here, place_next}
use Rattle.au_classes.proofs.knowing.first_place.Goals as goal

pub returns-then-is_row_of : goal.returns-then-is_row_of
returns-then-is_row_of c =
    let places = c.args.places.now.items in
    let i = c.loop-index.index in
    let within : i < length places = omega (arith, c.requires, c.loop-index-test.true) in
    place_here c.args.class c.args.constructor places c.args.rows.now i c.index.result.now
    c.index-rows-index.result c.is_row_of.result within c.loop-index-test.true c.index.ensures
    c.index-rows-index.is
    c.loop-index.invariant c.is_row_of.ensures c.if-is_row_of.true

pub loop-index-preserved : goal.loop-index-preserved
loop-index-preserved c =
    let places = c.args.places.now.items in
    let i = c.loop-index.index in
    let within : i < length places = omega (arith, c.requires, c.loop-index-test.true) in
    place_next c.args.class c.args.constructor places c.args.rows.now i c.index-rows-index.result
    c.is_row_of.result within c.loop-index-test.true c.index-rows-index.is
    c.loop-index.invariant c.is_row_of.ensures c.if-is_row_of.false

pub returns : goal.returns
returns c =
    let places = c.args.places.now.items in
    let i = c.loop-index.index in
    let past : length places ≤ i = omega (arith, c.requires, c.loop-index-test.false) in
    place_end c.args.class c.args.constructor places c.args.rows.now i past c.loop-index.invariant
