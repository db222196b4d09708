use Rattle.std.proofs.Common.{◌<◌, ◌++◌, length, sym, ap, ◌∙◌, arith}
use Rattle.au_modules.specs.Slots as slots
use Rattle.au_imports.proofs.OfferLemmas.{module_there}
use Rattle.au_formed.specs.Said.{spots_said}
use Rattle.au_formed.specs.Text.{module_spots}
use Rattle.au_formed.proofs.TextLemmas.{text_more, text_none}
use Rattle.au_formed.proofs.texts.all_declarations.Goals as goal

pub loop-place-init : goal.loop-place-init
loop-place-init c = ap spots_said c.new-list.ensures.items ∙ sym (text_none 0)

pub loop-place-preserved : goal.loop-place-preserved
loop-place-preserved c =
    let program = slots.modules c.args.modules.now in
    let place = c.loop-place.place in
    let within : place < length program = omega (arith, c.loop-place-test.true, c.len-place-end.ensures) in
    let there = module_there program place within in
    c.in_ok-push_module.ensures there.0 there.1
    ∙ ap (λ l. l ++ module_spots place there.0) c.loop-place.invariant
    ∙ sym (text_more program place there.0 within there.1)
