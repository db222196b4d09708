use Rattle.au_closing.proofs.ShippedLemmas.{at_truth_other}
use Rattle.au_closing.proofs.shipped.at_truth.Goals as goal

pub returns-in_default : goal.returns-in_default
returns-in_default c = at_truth_other c.args.call c.in_default.not-PrintText c.in_default.not-PrintLnText
