use Rattle.std.proofs.Common.{sym}
use Rattle.au_cells.proofs.FormLemmas.{not_reference}
use Rattle.au_cells.proofs.forms.reference_in.Goals as goal

pub returns-in_default : goal.returns-in_default
returns-in_default c = sym (not_reference c.args.cell.now c.in_default.not-Reference)
