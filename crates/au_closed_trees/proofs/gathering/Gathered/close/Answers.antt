use Rattle.std.proofs.Common.{◌≡◌, [], map, subst, sym}
use Rattle.au_graphs.specs.Reached.{adds}
use Rattle.au_type_texts.specs.Same.{same}
use Rattle.au_type_texts.specs.Views.{closed_meaning}
use Rattle.au_closed_trees.specs.Gathering.{AreWhole, parts_of}
use Rattle.au_closed_trees.proofs.GatheringLemmas.{one_whole}
use Rattle.au_closed_trees.proofs.gathering.Gathered.close.Goals as goal

pub invariant_of-self-2 : goal.invariant_of-self-2
invariant_of-self-2 c =
    let found = adds same [] (map closed_meaning c.self.inside.list.items) in
    subst (AreWhole found) (sym c.in_ok-insert.ensures.keys)
    (one_whole found c.self.inside.whole.keys c.args.key
    (λ of is. subst (λ f. adds same f (parts_of of) ≡ f) (sym c.self.view_is) (c.requires of is))
    c.self.invariant)
