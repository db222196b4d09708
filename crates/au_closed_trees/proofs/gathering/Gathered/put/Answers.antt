use Rattle.std.proofs.Common.{[], ◌∷◌, ap, map, subst, sym, ◌∙◌}
use Rattle.au_graphs.specs.Reached.{adds}
use Rattle.au_type_texts.specs.Same.{same}
use Rattle.au_type_texts.specs.Views.{closed_meaning}
use Rattle.au_closed_trees.specs.Gathering.{AreWhole}
use Rattle.au_closed_trees.proofs.GatheringLemmas.{put_more, still_whole}
use Rattle.au_closed_trees.proofs.gathering.Gathered.put.Goals as goal

pub invariant_of-self-2 : goal.invariant_of-self-2
invariant_of-self-2 c =
    let old = c.self.inside.list.items in
    let new = c.push.new.self.items in
    let of = closed_meaning c.args.of.now in
    subst (λ found. AreWhole found c.self.inside.whole.keys)
    (sym (put_more old new c.in_ok-copy.copy of c.in_ok-push.ensures.items c.in_ok-copy.ensures))
    (still_whole (adds same [] (map closed_meaning old)) (of ∷ []) c.self.inside.whole.keys c.self.invariant)

pub returns : goal.returns
returns c =
    let old = c.self.inside.list.items in
    let new = c.push.new.self.items in
    let of = closed_meaning c.args.of.now in
    put_more old new c.in_ok-copy.copy of c.in_ok-push.ensures.items c.in_ok-copy.ensures
    ∙ ap (λ found. adds same found (of ∷ [])) c.self.view_is
