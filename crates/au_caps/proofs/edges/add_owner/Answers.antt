use Rattle.std.proofs.Common.{[], subst, sym}
use Rattle.std.specs.Option.{option_map}
use Rattle.std.specs.Prelude.{OnOk}
use Rattle.au_types.specs.WrittenViews.{sense_in}
use Rattle.au_caps_lists.specs.Views.{body_said, home_said}
use Rattle.au_caps.specs.Views.{Grows}
use Rattle.au_caps.specs.Webs.{owner_arcs}
use Rattle.au_caps.proofs.edges.add_owner.Goals as goal

pub returns-in-None : goal.returns-in-None
returns-in-None c =
    let sense = sense_in c.args.scope.now in
    let b = body_said c.args.body.now in
    subst (λ o. OnOk c.add_function.result (Grows (owner_arcs sense c.args.own b (option_map home_said o)) []
    c.args.web.now c.add_function.new.web)) (sym c.in-None.is) c.add_function.ensures

pub returns-in-Some : goal.returns-in-Some
returns-in-Some c =
    let sense = sense_in c.args.scope.now in
    let b = body_said c.args.body.now in
    subst (λ o. OnOk c.add_home.result (Grows (owner_arcs sense c.args.own b (option_map home_said o)) []
    c.args.web.now c.add_home.new.web)) (sym c.in-Some.is) c.add_home.ensures
