use Rattle.au_judged_programs.proofs.ShippedCallLemmas.{shipped_seen}
use Rattle.au_judged_programs.proofs.shipped_calls.shipped_calls_are_seen.Goals as goal

pub returns : goal.returns
returns c = λ program noted. shipped_seen program noted
