use Rattle.au_caps.proofs.GrowLemmas.{grows_to}
use Rattle.au_caps.proofs.edges.add_to.Goals as goal

pub returns : goal.returns
returns c =
    λ a x same is. grows_to _ _ _ c.args.from c.in_ok-to.to a x c.in_ok-to.ensures.grows
    (c.in_ok-to.ensures.number x same) is c.in_ok-add.ensures
