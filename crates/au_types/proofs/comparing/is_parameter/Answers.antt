use Rattle.std.proofs.Common.{sym}
use Rattle.au_types.proofs.SameLemmas.{not_parameter}
use Rattle.au_types.proofs.comparing.is_parameter.Goals as goal

pub returns-in_default : goal.returns-in_default
returns-in_default c = sym (not_parameter c.args.name.now c.args.of.now c.in_default.not-Param)
