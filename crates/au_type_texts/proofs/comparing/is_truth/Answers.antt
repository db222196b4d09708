use Rattle.std.proofs.Common.{sym}
use Rattle.au_type_texts.proofs.SameLemmas.{not_truth}
use Rattle.au_type_texts.proofs.comparing.is_truth.Goals as goal

pub returns-in_default : goal.returns-in_default
returns-in_default c = sym (not_truth c.args.of.now c.in_default.not-Bool)
