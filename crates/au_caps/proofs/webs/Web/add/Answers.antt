use Rattle.std.proofs.Common.{refl}
use Rattle.au_caps.proofs.GrowLemmas.{grows_edge}
use Rattle.au_caps.proofs.webs.Web.add.Goals as goal

pub returns : goal.returns
returns c = λ a b is_a is_b.
    grows_edge c.args.self.now _ c.args.from c.args.to a b refl refl refl c.in_ok-push.ensures.items is_a is_b
