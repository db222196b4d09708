use Rattle.std.proofs.Common.{◌+◌, ◌++◌, map, drop, ap, ◌∙◌, arith}
use Rattle.au_modules.specs.Slots as slots
use Rattle.au_names.specs.Defining.{wholes_of}
use Rattle.au_names.proofs.ExportLemmas.{mapped_step, mapped_end}
use Rattle.au_names.proofs.definitions.wholes_by_place.Goals as goal

pub loop-place-preserved : goal.loop-place-preserved
loop-place-preserved c =
    let program = slots.modules c.args.modules.now in
    ap (λ r. r ++ map wholes_of (drop (c.loop-place.place + 1) program)) c.in_ok-push.ensures.items
    ∙ mapped_step wholes_of c.loop-place.wholes.items program c.loop-place.place c.in_ok-table.table
    c.loop-place.invariant c.in_ok-table.ensures

pub returns : goal.returns
returns c =
    let program = slots.modules c.args.modules.now in
    mapped_end wholes_of c.loop-place.wholes.items program c.loop-place.place
    (omega (arith, c.len-place-end.ensures, c.loop-place-test.false)) c.loop-place.invariant
