use Rattle.std.proofs.Common.{◌++◌, sym, ap, ◌∙◌, arith}
use Rattle.std.proofs.lemmas.List.{take_all}
use Rattle.au_noting_programs.specs.Said.{modules_said, part_said}
use Rattle.au_caps_lists.specs.Bodies.{all_bodied_from, bodied_of_file}
use Rattle.au_caps_lists.specs.Views.{bodies_said}
use Rattle.au_caps_lists.proofs.BodyLemmas.{bodied_more, none_bodied}
use Rattle.au_caps_lists.proofs.bodies.bodies_of.Goals as goal

pub loop-place-init : goal.loop-place-init
loop-place-init c = ap bodies_said c.new-made.ensures.items ∙ sym (none_bodied 0)

pub loop-place-preserved : goal.loop-place-preserved
loop-place-preserved c =
    let modules = c.args.modules.now in
    let place = c.loop-place.place in
    let one = c.index-modules-place.result in
    c.in_ok-push_file.ensures
    ∙ ap (λ f. bodies_said c.loop-place.made.items ++ bodied_of_file place (part_said f))
    c.as_ref.ensures.value
    ∙ ap (λ l. l ++ bodied_of_file place (part_said one.body)) c.loop-place.invariant
    ∙ sym (bodied_more modules place one c.loop-place-test.true c.index-modules-place.is)

pub returns : goal.returns
returns c =
    c.loop-place.invariant
    ∙ ap (λ l. all_bodied_from 0 (modules_said l))
    (take_all c.loop-place.place c.args.modules.now (omega (arith, c.loop-place-test.false)))
