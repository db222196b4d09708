use Rattle.std.proofs.Common.{[], Some, sym, ap, ◌∙◌, arith}
use Rattle.au_types.specs.Tables.{with_all}
use Rattle.au_modules.specs.Slots as slots
use Rattle.au_names.specs.Placing.{places_from}
use Rattle.au_names.proofs.ExportLemmas.{placed_step, placed_end}
use Rattle.au_names.proofs.exports.places_by_name.Goals as goal

pub loop-place-preserved : goal.loop-place-preserved
loop-place-preserved c =
    let program = slots.modules c.args.modules.now in
    placed_step program c.loop-place.place c.as_bytes.result.now c.loop-place.places c.put.new.self
    (with_all [] (places_from 0 program))
    (c.name.ensures ∙ ap Some (sym c.as_bytes.ensures.bytes)) c.loop-place.invariant c.in_ok-put.ensures.pairs

pub returns : goal.returns
returns c =
    let program = slots.modules c.args.modules.now in
    placed_end program c.loop-place.place c.loop-place.places (with_all [] (places_from 0 program))
    (omega (arith, c.len-place-end.ensures, c.loop-place-test.false)) c.loop-place.invariant
