use Rattle.au_caps.proofs.GrowLemmas.{grows_from}
use Rattle.au_caps.proofs.edges.add_from.Goals as goal

pub returns : goal.returns
returns c =
    λ x b same is. grows_from _ _ _ c.in_ok-from.from c.args.to x b c.in_ok-from.ensures.grows
    (c.in_ok-from.ensures.number x same) is c.in_ok-add.ensures
