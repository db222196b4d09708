use Rattle.std.proofs.Common.{refl}
use Rattle.au_caps.specs.Webs.{a_body}
use Rattle.au_caps.specs.Views.{callee_said}
use Rattle.au_caps.proofs.edges.add_call.Goals as goal

pub returns : goal.returns
returns c =
    c.in_ok-add_to.ensures (a_body c.args.own) (callee_said c.args.one.now) c.in_ok-key.ensures
    (refl, c.requires)
