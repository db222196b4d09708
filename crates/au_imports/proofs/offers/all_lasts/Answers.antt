use Rattle.std.proofs.Common.{◌+◌, ◌++◌, map, drop, ap, ◌∙◌, arith}
use Rattle.au_modules.specs.Slots as slots
use Rattle.au_imports.specs.Gathered.{last_offers}
use Rattle.au_imports.proofs.OfferLemmas.{lasts_step, lasts_end}
use Rattle.au_imports.proofs.offers.all_lasts.Goals as goal

pub loop-place-preserved : goal.loop-place-preserved
loop-place-preserved c =
    let program = slots.modules c.args.modules.now in
    ap (λ r. r ++ map last_offers (drop (c.loop-place.place + 1) program)) c.in_ok-push.ensures.items
    ∙ lasts_step c.loop-place.lasts.items program c.loop-place.place c.in_ok-names.names
    c.loop-place.invariant c.in_ok-names.ensures

pub returns : goal.returns
returns c =
    let program = slots.modules c.args.modules.now in
    lasts_end c.loop-place.lasts.items program c.loop-place.place
    (omega (arith, c.len-place-end.ensures, c.loop-place-test.false)) c.loop-place.invariant
