use Rattle.std.proofs.Common.{reverse, get_or, sym, ap, ◌+◌, ◌∙◌}
use Rattle.au_cells.proofs.PileLemmas.{put_view, put_old}
use Rattle.au_cells.proofs.stacking.Piles.put.Goals as goal

pub returns-clause-new : goal.returns-clause-new
returns-clause-new g c =
    let piles = c.self.inside in
    put_view piles.items.items
    (reverse piles.bases.items) piles.base c.args.index c.replace.new.dest c.args.item
    c.args.self.now c.replace.ensures.after c.self.view_is

pub returns-clause-old : goal.returns-clause-old
returns-clause-old g c =
    let piles = c.self.inside in
    let is = c.replace.ensures.value ∙ c.index_mut.ensures.value
    ∙ ap (get_or piles.items.items (piles.base + c.args.index)) (sym c.replace.ensures.value) in
    put_old piles.items.items
    (reverse piles.bases.items) piles.base c.args.index c.replace.result c.args.self.now is
    c.self.view_is c.requires
