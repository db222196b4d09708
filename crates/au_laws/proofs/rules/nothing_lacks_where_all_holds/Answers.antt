use Rattle.au_laws.proofs.RuleLemmas.{hold_none, none_hold}
use Rattle.au_laws.proofs.rules.nothing_lacks_where_all_holds.Goals as goal

pub returns : goal.returns
returns c = λ scope s wanted table. (none_hold scope table s wanted, hold_none scope table s wanted)
