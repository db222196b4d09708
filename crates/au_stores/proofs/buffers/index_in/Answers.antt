use Rattle.std.proofs.Common.{ap, sym, ◌∙◌}
use Rattle.au_effects.specs.Calls as call
use Rattle.au_cells.specs.declared.cells.Cell.{Cell}
use Rattle.au_cells.specs.Cells.{low}
use Rattle.au_stores.proofs.FormLemmas.{index_is, not_index}
use Rattle.au_stores.proofs.buffers.index_in.Goals as goal

pub returns-in-Index : goal.returns-in-Index
returns-in-Index c = sym (ap (λ (one : Cell). call.index_in (low one)) c.in-Index.is ∙ index_is c.in-Index.n)

pub returns-in_default : goal.returns-in_default
returns-in_default c = sym (not_index c.args.cell.now c.in_default.not-Index)
