use Rattle.std.proofs.Common.{ap, ◌∙◌}
use Rattle.au_formed.specs.Fields.{case_above, cases_above}
use Rattle.au_judged_types.specs.Views.{judged_in}
use Rattle.au_promises.specs.Said.{case_said, cases_said}
use Rattle.au_imports.proofs.DeclaringLemmas.{first_more, first_none, found_here, not_here, nowhere}
use Rattle.au_matching.specs.Universes.{universe_of}
use Rattle.au_formed.proofs.fields.first_in_cases.Goals as goal

pub returns-in-Some : goal.returns-in-Some
returns-in-Some c =
    let judge = judged_in c.args.scope.now in
    let universe = universe_of c.args.scope.now.heads.now c.args.scope.now.params.now in
    let place_in = case_above judge universe c.args.universe in
    let items = c.deref-one-items.result.now in
    found_here (λ cs. cases_above judge universe c.args.universe (cases_said cs))
    (λ one. place_in (case_said one))
    (λ one cs. first_more place_in (case_said one)
    (cases_said cs)) items c.loop-one.one-index c.one-item.result
    c.in_ok-at.field-0 c.in-Some.at
    (cases_above judge universe c.args.universe
    (cases_said items)) c.loop-one-test.true c.one-item.is c.loop-one.invariant
    c.in_ok-at.ensures c.in-Some.is
    ∙ ap (λ cs. cases_above judge universe c.args.universe (cases_said cs)) c.deref-one-items.ensures.value

pub loop-one-preserved : goal.loop-one-preserved
loop-one-preserved c =
    let judge = judged_in c.args.scope.now in
    let universe = universe_of c.args.scope.now.heads.now c.args.scope.now.params.now in
    let place_in = case_above judge universe c.args.universe in
    let items = c.deref-one-items.result.now in
    not_here (λ cs. cases_above judge universe c.args.universe (cases_said cs))
    (λ one. place_in (case_said one))
    (λ one cs. first_more place_in (case_said one)
    (cases_said cs)) items c.loop-one.one-index c.one-item.result
    c.in_ok-at.field-0 (cases_above judge universe c.args.universe
    (cases_said items)) c.loop-one-test.true c.one-item.is c.loop-one.invariant
    c.in_ok-at.ensures c.in-None.is

pub returns : goal.returns
returns c =
    let judge = judged_in c.args.scope.now in
    let universe = universe_of c.args.scope.now.heads.now c.args.scope.now.params.now in
    let items = c.deref-one-items.result.now in
    nowhere (λ cs. cases_above judge universe c.args.universe (cases_said cs))
    (first_none (case_above judge universe c.args.universe)) items c.loop-one.one-index
    (cases_above judge universe c.args.universe (cases_said items)) c.loop-one-test.false c.loop-one.invariant
    ∙ ap (λ cs. cases_above judge universe c.args.universe (cases_said cs)) c.deref-one-items.ensures.value
