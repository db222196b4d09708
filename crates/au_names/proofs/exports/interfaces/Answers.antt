use Rattle.std.proofs.Common.{◌+◌, ◌++◌, map, drop, ap, ◌∙◌, arith}
use Rattle.au_modules.specs.Slots as slots
use Rattle.au_names.specs.Exporting.{offers}
use Rattle.au_names.proofs.ExportLemmas.{mapped_step, mapped_end}
use Rattle.au_names.proofs.exports.interfaces.Goals as goal

pub loop-place-preserved : goal.loop-place-preserved
loop-place-preserved c =
    let program = slots.modules c.args.modules.now in
    ap (λ r. r ++ map offers (drop (c.loop-place.place + 1) program)) c.in_ok-push.ensures.items
    ∙ mapped_step offers c.loop-place.interfaces.items program c.loop-place.place c.in_ok-names.names
    c.loop-place.invariant c.in_ok-names.ensures

pub returns : goal.returns
returns c =
    let program = slots.modules c.args.modules.now in
    mapped_end offers c.loop-place.interfaces.items program c.loop-place.place
    (omega (arith, c.len-place-end.ensures, c.loop-place-test.false)) c.loop-place.invariant
