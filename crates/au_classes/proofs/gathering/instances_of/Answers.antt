use Rattle.std.proofs.Common.{◌<◌, ◌≤◌, length, ap, ◌∙◌, arith}
use Rattle.au_modules.specs.Slots as slots
use Rattle.au_classes.specs.InstanceViews.{texts_said}
use Rattle.au_classes.proofs.GatherLemmas.{modules_end, modules_next}
use Rattle.au_classes.proofs.gathering.instances_of.Goals as goal

pub loop-place-preserved : goal.loop-place-preserved
loop-place-preserved c =
    let program = slots.modules c.args.program.now in
    let many = c.len-place-end.ensures ∙ ap (λ ms. length (slots.modules ms)) c.modules.ensures.kept in
    let within : c.loop-place.place < length program = omega (arith, many, c.loop-place-test.true) in
    modules_next program c.loop-place.place (texts_said c.loop-place.list.items)
    (texts_said c.push_module.new.list.items) within c.loop-place.invariant c.in_ok-push_module.ensures

pub returns : goal.returns
returns c =
    let program = slots.modules c.args.program.now in
    let many = c.len-place-end.ensures ∙ ap (λ ms. length (slots.modules ms)) c.modules.ensures.kept in
    let past : length program ≤ c.loop-place.place = omega (arith, many, c.loop-place-test.false) in
    modules_end program c.loop-place.place (texts_said c.loop-place.list.items) past c.loop-place.invariant
