use Rattle.std.proofs.Common.{[], ◌∷◌, refl}
use Rattle.au_caps.specs.Calls.{an_instance}
use Rattle.au_caps.specs.Webs.{a_body, a_callee}
use Rattle.au_caps.specs.Webs.{constraint_arcs}
use Rattle.au_caps.proofs.GrowLemmas.{grows_then}
use Rattle.au_caps.proofs.edges.add_instance.Goals as goal

pub returns : goal.returns
returns c =
    let class = c.args.class in
    let one = c.args.one in
    let own = c.args.own in
    grows_then ((a_callee (an_instance class one), a_body own) ∷ [])
    (constraint_arcs class one c.args.others.now) [] []
    _ _ _ (c.in_ok-add_from.ensures (an_instance class one) (a_body own) c.in_ok-key.ensures
    (refl, c.requires))
    c.in_ok-add_constraints.ensures
