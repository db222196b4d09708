use Rattle.std.proofs.Common.{map, arith}
use Rattle.au_modules.specs.Slots as slots
use Rattle.au_names.specs.Methods.{held, methods_by_number}
use Rattle.au_names.proofs.ExportLemmas.{mapped_end}
use Rattle.au_names.proofs.MethodLemmas.{places_step}
use Rattle.au_names.proofs.methods.Methods.of.Goals as goal

pub loop-place-preserved : goal.loop-place-preserved
loop-place-preserved c =
    places_step (slots.modules c.args.modules.now) c.loop-place.place c.loop-place.by_place.items
    c.push.new.self.items c.in_ok-all.all c.loop-place.invariant c.in_ok-all.ensures
    c.in_ok-push.ensures.items

pub returns : goal.returns
returns c =
    let program = slots.modules c.args.modules.now in
    mapped_end methods_by_number (map held c.loop-place.by_place.items) program c.loop-place.place
    (omega (arith, c.len-place-end.ensures, c.loop-place-test.false)) c.loop-place.invariant
