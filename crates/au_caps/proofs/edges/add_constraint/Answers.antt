use Rattle.std.proofs.Common.{[], ◌∷◌}
use Rattle.au_caps.specs.Calls.{a_class, an_instance}
use Rattle.au_caps.specs.Webs.{a_callee}
use Rattle.au_caps.proofs.GrowLemmas.{grows_then}
use Rattle.au_caps.proofs.edges.add_constraint.Goals as goal

pub returns : goal.returns
returns c =
    let class = c.args.class in
    let one = c.args.one in
    let other = c.args.other in
    grows_then [] ((a_callee (an_instance c.args.class c.args.one), a_callee (a_class c.args.other)) ∷ []) []
    [] _ _ _ c.in_ok-to.ensures.grows
    (c.in_ok-add_from.ensures (an_instance class one) (a_callee (a_class other)) c.in_ok-key-2.ensures
    (c.in_ok-to.ensures.number (a_class other) c.in_ok-key.ensures))
