use Rattle.std.proofs.Common.{sym}
use Rattle.au_type_texts.proofs.SameLemmas.{not_unit}
use Rattle.au_type_texts.proofs.comparing.is_unit.Goals as goal

pub returns-in_default : goal.returns-in_default
returns-in_default c = sym (not_unit c.args.of.now c.in_default.not-Unit)
