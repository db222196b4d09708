use Rattle.std.proofs.Common.{sym}
use Rattle.au_cells.proofs.FormLemmas.{not_made}
use Rattle.au_cells.proofs.PartLemmas.{field_is, no_field}
use Rattle.std.proofs.Common.{ap}
use Rattle.au_effects.specs.Parts as effect
use Rattle.au_cells.specs.declared.cells.Cell.{Cell}
use Rattle.au_cells.specs.Cells.{low}
use Rattle.au_cells.proofs.paths.field.Goals as goal

pub returns-in-Made : goal.returns-in-Made
returns-in-Made c =
    let there = field_is c.in-Made.parts c.args.index in
    let same = ap (λ (one : Cell). effect.field c.args.index (low one)) c.in-Made.is in
    cc

pub returns-in_default : goal.returns-in_default
returns-in_default c = sym (no_field (low c.args.cell.now) c.args.index
    (not_made c.args.cell.now c.in_default.not-Made))
