use Rattle.std.proofs.Common.{Some, sym, ap, ◌∙◌}
use Rattle.au_cells.specs.declared.cells.Cell.{Cell}
use Rattle.au_cells.specs.declared.cells.Parts.{Parts}
use Rattle.au_cells.specs.Cells.{low, taken_apart, apart_of}
use Rattle.au_cells.proofs.FormLemmas.{not_made, made_apart}
use Rattle.au_cells.proofs.forms.into_parts.Goals as goal

pub returns-in-Made : goal.returns-in-Made
returns-in-Made c =
    ap (λ (parts : Parts). Some (apart_of parts)) c.into_inner.ensures
    ∙ sym (ap (λ (one : Cell). taken_apart (low one)) c.in-Made.is ∙ made_apart c.in-Made.parts)

pub returns : goal.returns
returns c = sym (not_made c.args.cell c.in_default.not-Made)
