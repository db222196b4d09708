use Rattle.std.proofs.Common.{[], ◌∷◌, Some, ap, refl, subst, sym}
use Rattle.std.specs.Prelude.{◌<◌}
use Rattle.std.proofs.lemmas.Result.{IfOk-weaker}
use Rattle.au_caps.specs.Calls.{a_class, a_method}
use Rattle.au_caps_lists.specs.Views.{body_said}
use Rattle.au_caps.specs.Webs.{a_body, a_callee, instance_arcs, method_arcs}
use Rattle.au_caps.proofs.GrowLemmas.{grows_as, grows_then}
use Rattle.au_caps.proofs.edges.add_of_class.Goals as goal

pub add_instance-requires : goal.add_instance-requires
add_instance-requires c =
    subst (λ n. c.args.own < n) (sym c.in_ok-add_method.ensures.count) c.requires

pub returns-in-None : goal.returns-in-None
returns-in-None c =
    let own = c.args.own in
    let class = c.args.class in
    let b = body_said c.args.body.now in
    grows_as _ (method_arcs own b (Some class) c.args.one c.args.others.now) [] [] _ _
    (ap (λ o. method_arcs own b (Some class) o c.args.others.now) (sym c.in-None.is)) refl
    c.in_ok-add_method.ensures

pub returns-in-Some : goal.returns-in-Some
returns-in-Some c =
    let own = c.args.own in
    let class = c.args.class in
    let b = body_said c.args.body.now in
    let others = c.args.others.now in
    let both = (a_callee (a_method class b.header.name.name), a_body own) ∷
    (a_callee (a_class class), a_body own) ∷ [] in
    IfOk-weaker c.add_instance.result _ _
    (λ u g. grows_as _ (method_arcs own b (Some class) c.args.one others) [] [] _ _
    (ap (λ o. method_arcs own b (Some class) o others) (sym c.in-Some.is)) refl
    (grows_then both (instance_arcs own class (Some c.in-Some.one) others) [] [] _ _ _
    c.in_ok-add_method.ensures g))
    c.add_instance.ensures
