use Rattle.std.proofs.Common.{ap, ◌∙◌}
use Rattle.au_formed.specs.Fields.{above_place, first_above}
use Rattle.au_judged_types.specs.Views.{judged_in}
use Rattle.au_promises.specs.Said.{fields_said}
use Rattle.au_imports.specs.Choices.{where_so}
use Rattle.au_imports.proofs.DeclaringLemmas.{first_more, first_none, found_here, not_here, nowhere}
use Rattle.au_syntax.specs.contracts.parsed.ParsedPhase.TheImpl.{ghosts as parsed}
use Rattle.au_syntax.specs.Plain.{plain_labelled}
use Rattle.au_syntax.specs.Views.{labelled}
use Rattle.au_matching.specs.Universes.{universe_of}
use Rattle.au_formed.proofs.fields.first_above.Goals as goal

pub returns-then-branch : goal.returns-then-branch
returns-then-branch c =
    let judge = judged_in c.args.scope.now in
    let universe = universe_of c.args.scope.now.heads.now c.args.scope.now.params.now in
    let place_in = above_place judge universe c.args.universe in
    let items = c.deref-one-items.result.now in
    let place = c.one-item.result.name.at in
    found_here (λ fs. first_above judge universe c.args.universe (fields_said fs))
    (λ f. place_in (plain_labelled parsed.name_bytes (labelled parsed f)))
    (λ f fs. first_more place_in (plain_labelled parsed.name_bytes (labelled parsed f))
    (fields_said fs)) items c.loop-one.one-index c.one-item.result
    (where_so c.in_ok-is_above.field-0 place) place
    (first_above judge universe c.args.universe
    (fields_said items)) c.loop-one-test.true c.one-item.is c.loop-one.invariant
    (ap (λ b. where_so b place) c.in_ok-is_above.ensures)
    (ap (λ b. where_so b place) c.if-branch.true)
    ∙ ap (λ fs. first_above judge universe c.args.universe (fields_said fs)) c.deref-one-items.ensures.value

pub loop-one-preserved : goal.loop-one-preserved
loop-one-preserved c =
    let judge = judged_in c.args.scope.now in
    let universe = universe_of c.args.scope.now.heads.now c.args.scope.now.params.now in
    let place_in = above_place judge universe c.args.universe in
    let items = c.deref-one-items.result.now in
    let place = c.one-item.result.name.at in
    not_here (λ fs. first_above judge universe c.args.universe (fields_said fs))
    (λ f. place_in (plain_labelled parsed.name_bytes (labelled parsed f)))
    (λ f fs. first_more place_in (plain_labelled parsed.name_bytes (labelled parsed f))
    (fields_said fs)) items c.loop-one.one-index c.one-item.result
    (where_so c.in_ok-is_above.field-0 place)
    (first_above judge universe c.args.universe
    (fields_said items)) c.loop-one-test.true c.one-item.is c.loop-one.invariant
    (ap (λ b. where_so b place) c.in_ok-is_above.ensures)
    (ap (λ b. where_so b place) c.if-branch.false)

pub returns : goal.returns
returns c =
    let judge = judged_in c.args.scope.now in
    let universe = universe_of c.args.scope.now.heads.now c.args.scope.now.params.now in
    let items = c.deref-one-items.result.now in
    nowhere (λ fs. first_above judge universe c.args.universe (fields_said fs))
    (first_none (above_place judge universe c.args.universe)) items c.loop-one.one-index
    (first_above judge universe c.args.universe
    (fields_said items)) c.loop-one-test.false c.loop-one.invariant
    ∙ ap (λ fs. first_above judge universe c.args.universe (fields_said fs)) c.deref-one-items.ensures.value
