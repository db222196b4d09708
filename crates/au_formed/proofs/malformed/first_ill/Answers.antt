use Rattle.std.proofs.Common.{ap, ◌∙◌}
use Rattle.au_formed.specs.Malformed.{ill_place, is_ill, malformed}
use Rattle.au_formed.specs.Said.{writing_said, writings_said}
use Rattle.au_formed.specs.Writings.{place_of}
use Rattle.au_judged_types.specs.Views.{judged_in}
use Rattle.au_imports.specs.Choices.{where_so}
use Rattle.au_imports.proofs.DeclaringLemmas.{first_more, first_none, found_here, not_here, nowhere}
use Rattle.au_types.specs.WrittenViews.{sense_in}
use Rattle.au_formed.proofs.malformed.first_ill.Goals as goal

pub returns-then-branch : goal.returns-then-branch
returns-then-branch c =
    let judge = judged_in c.args.scope.now in
    let sense = sense_in c.args.scope.now in
    let items = c.deref-one-items.result.now in
    let one = writing_said c.one-item.result in
    let place = c.place_of.result in
    found_here (λ ws. malformed judge sense (writings_said ws)) (λ w. ill_place judge sense (writing_said w))
    (λ w ws. first_more (ill_place judge sense) (writing_said w)
    (writings_said ws)) items c.loop-one.one-index c.one-item.result
    (where_so c.in_ok-is_ill.field-0 place) place
    (malformed judge sense (writings_said items)) c.loop-one-test.true c.one-item.is c.loop-one.invariant
    (ap (λ b. where_so b place) c.in_ok-is_ill.ensures
    ∙ ap (where_so (is_ill judge sense one)) c.place_of.ensures)
    (ap (λ b. where_so b place) c.if-branch.true)
    ∙ ap (λ ws. malformed judge sense (writings_said ws)) c.deref-one-items.ensures.value

pub loop-one-preserved : goal.loop-one-preserved
loop-one-preserved c =
    let judge = judged_in c.args.scope.now in
    let sense = sense_in c.args.scope.now in
    let items = c.deref-one-items.result.now in
    let place = place_of (writing_said c.one-item.result) in
    not_here (λ ws. malformed judge sense (writings_said ws)) (λ w. ill_place judge sense (writing_said w))
    (λ w ws. first_more (ill_place judge sense) (writing_said w)
    (writings_said ws)) items c.loop-one.one-index c.one-item.result
    (where_so c.in_ok-is_ill.field-0 place)
    (malformed judge sense (writings_said items)) c.loop-one-test.true c.one-item.is c.loop-one.invariant
    (ap (λ b. where_so b place) c.in_ok-is_ill.ensures)
    (ap (λ b. where_so b place) c.if-branch.false)

pub returns : goal.returns
returns c =
    let judge = judged_in c.args.scope.now in
    let sense = sense_in c.args.scope.now in
    let items = c.deref-one-items.result.now in
    nowhere (λ ws. malformed judge sense (writings_said ws))
    (first_none (ill_place judge sense)) items c.loop-one.one-index
    (malformed judge sense (writings_said items))
    c.loop-one-test.false c.loop-one.invariant
    ∙ ap (λ ws. malformed judge sense (writings_said ws)) c.deref-one-items.ensures.value
