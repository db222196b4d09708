use Rattle.std.proofs.Common.{◌≤◌, length, arith}
use Rattle.au_modules.specs.Slots as slots
use Rattle.au_names.proofs.NameLemmas.{below_next, below_all}
use Rattle.au_names.proofs.module_names.names_by_place.Goals as goal

pub loop-place-preserved : goal.loop-place-preserved
loop-place-preserved c =
    let program = slots.modules c.args.modules.now in
    below_next program c.loop-place.place c.loop-place.all.items _ c.in_ok-names.names c.loop-place.invariant
    c.in_ok-names.ensures c.in_ok-push.ensures.items

pub returns : goal.returns
returns c =
    let program = slots.modules c.args.modules.now in
    let past : length program ≤ c.loop-place.place =
    omega (arith, c.len-place-end.ensures, c.loop-place-test.false) in
    below_all program c.loop-place.place c.loop-place.all.items past c.loop-place.invariant
