use Rattle.std.proofs.Common.{[], ◌∷◌, refl}
use Rattle.au_caps.specs.Calls.{a_class, a_method}
use Rattle.au_caps.specs.Webs.{a_body, a_callee}
use Rattle.std.proofs.Common.{ap, subst, sym, ◌∙◌}
use Rattle.au_caps.specs.Keys.{key_of}
use Rattle.std.specs.Prelude.{◌<◌}
use Rattle.au_caps.proofs.GrowLemmas.{grows_then}
use Rattle.au_caps.proofs.edges.add_method.Goals as goal

pub returns : goal.returns
returns c =
    let class = c.args.class in
    let own = c.args.own in
    let name = c.args.name.now in
    let first = c.in_ok-add_from.ensures (a_method class name) (a_body own)
    (c.in_ok-key.ensures ∙ ap (λ n. key_of (a_method class n)) c.as_bytes.ensures.bytes) (refl, c.requires) in
    grows_then ((a_callee (a_method class name), a_body own) ∷ [])
    ((a_callee (a_class class), a_body own) ∷ []) [] []
    _ _ _ first (c.in_ok-add_from-2.ensures (a_class class) (a_body own) c.in_ok-key-2.ensures
    (refl, subst (λ n. own < n) (sym first.count) c.requires))
