use Rattle.std.proofs.Common.{length, reverse, take, sym, ap, ◌∙◌}
use Rattle.std.proofs.lemmas.List.{length-reverse}
use Rattle.au_cells.proofs.PileLemmas.{length_peeled}
use Rattle.au_cells.proofs.stacking.Piles.depth.Goals as goal

pub returns : goal.returns
returns g c =
    let piles = c.self.inside in
    c.len.ensures ∙ piles.bases.ok.0 ∙ sym (length-reverse piles.bases.items)
    ∙ sym (length_peeled (reverse piles.bases.items) (take piles.base piles.items.items))
    ∙ ap (λ v. length v.1) c.self.view_is
