use Rattle.std.proofs.Common.{refl}
use Rattle.au_caps.proofs.GrowLemmas.{grows_birth}
use Rattle.au_caps.proofs.webs.Web.bear.Goals as goal

pub returns : goal.returns
returns c = grows_birth c.args.self.now _ (c.args.head, c.args.to) refl refl refl c.in_ok-push.ensures.items
