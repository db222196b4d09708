use Rattle.std.proofs.Common.{[], ap, refl, ◌∙◌}
use Rattle.std.proofs.lemmas.Result.{IfOk-weaker}
use Rattle.au_types.specs.WrittenViews.{sense_in}
use Rattle.au_caps.specs.Making.{classes_of, constructor_written}
use Rattle.au_caps_lists.specs.Views.{body_said, home_said}
use Rattle.au_caps.specs.Webs.{method_arcs}
use Rattle.au_caps.proofs.GrowLemmas.{grows_as, grows_none}
use Rattle.au_caps.proofs.edges.add_home.Goals as goal

pub returns-in-None : goal.returns-in-None
returns-in-None c =
    let sense = sense_in c.args.scope.now in
    let b = body_said c.args.body.now in
    let home = home_said c.args.home.now in
    grows_as [] _ [] [] _ _
    (ap (λ o. method_arcs c.args.own b o (constructor_written sense home.of) (classes_of sense b.generics))
    c.in-None.ensures) refl (grows_none c.args.web.now)

pub returns-in_ok-others-in-Some : goal.returns-in_ok-others-in-Some
returns-in_ok-others-in-Some c =
    let b = body_said c.args.body.now in
    let others = c.as_slice.ensures.value ∙ c.in_ok-others-in-Some.ensures in
    IfOk-weaker c.add_of_class.result _ _
    (λ u g. grows_as _ _ [] [] _ _
    (λ i. method_arcs c.args.own b (c.in-Some.ensures i) (c.constructor_written-one.ensures i) (others i))
    refl g)
    c.add_of_class.ensures
