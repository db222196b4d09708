use Rattle.std.proofs.Common.{◌<◌, ◌≤◌, length, ap, arith}
use Rattle.au_modules.specs.Slots as slots
use Rattle.au_rules.proofs.PlaceLemmas.{below_all, below_next, none_below}
use Rattle.au_rules.proofs.doubles.Doubles.of.Goals as goal

pub loop-place-init : goal.loop-place-init
loop-place-init c = none_below (slots.modules c.args.resolved.now) c.new-by_place.result.items
    c.new-by_place.ensures.items

pub loop-place-preserved : goal.loop-place-preserved
loop-place-preserved c =
    let program = slots.modules c.args.resolved.now in
    let same = ap (λ r. length (slots.modules r)) c.modules.ensures.kept in
    let within : c.loop-place.place < length program = omega
    (arith, same, c.len-place-end.ensures, c.loop-place-test.true) in
    below_next program c.loop-place.place c.loop-place.by_place.items c.push.new.self.items
    c.in_ok-doubles.doubles within
    c.loop-place.invariant c.in_ok-doubles.ensures c.in_ok-push.ensures.items

pub returns : goal.returns
returns c =
    let program = slots.modules c.args.resolved.now in
    let same = ap (λ r. length (slots.modules r)) c.modules.ensures.kept in
    let past : length program ≤ c.loop-place.place = omega
    (arith, same, c.len-place-end.ensures, c.loop-place-test.false) in
    below_all program c.loop-place.place c.loop-place.by_place.items past c.loop-place.invariant
