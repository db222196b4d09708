use Rattle.std.proofs.Common.{sym}
use Rattle.au_cells.proofs.FormLemmas.{not_root}
use Rattle.au_cells.proofs.forms.root_in.Goals as goal

pub returns-in_default : goal.returns-in_default
returns-in_default c = sym (not_root c.args.cell.now c.in_default.not-Root)
