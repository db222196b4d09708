use Rattle.std.proofs.Common.{refl, ◌∙◌}
use Rattle.au_caps.specs.Calls.{a_function}
use Rattle.au_caps.specs.Keys.{key_of}
use Rattle.au_caps_lists.specs.Views.{body_said}
use Rattle.au_caps.specs.Webs.{a_body}
use Rattle.au_caps.proofs.edges.add_function.Goals as goal

pub returns : goal.returns
returns c =
    let b = body_said c.args.body.now in
    c.in_ok-add_from.ensures (a_function b.place b.header.name.name) (a_body c.args.own)
    (c.in_ok-key.ensures ∙ (λ i. key_of (a_function (c.in_ok-place.ensures i) (c.as_bytes.ensures.bytes i))))
    (refl, c.requires)
