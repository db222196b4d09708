use Rattle.std.proofs.Common.{slice_set, ap, ◌∙◌}
use Rattle.std.proofs.lemmas.List.{map-set}
use Rattle.au_cells.specs.declared.cells.Cell.{Cell}
use Rattle.au_cells.specs.Cells.{low, lows}
use Rattle.au_stores.proofs.buffers.replaced.Goals as goal

pub returns-clause-new : goal.returns-clause-new
returns-clause-new c =
    let cells = c.args.cells.now.items in
    ap (λ (one : Cell). lows (slice_set cells c.args.index one)) c.replace.ensures.after
    ∙ map-set low cells c.args.index c.args.new
