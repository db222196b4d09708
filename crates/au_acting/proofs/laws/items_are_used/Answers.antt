use Rattle.au_acting.proofs.ItemLemmas.{copies, puts, takes}
use Rattle.au_acting.proofs.laws.items_are_used.Goals as goal

pub returns-clause-put : goal.returns-clause-put
returns-clause-put g c = λ types owner acts hold type under m w. puts _ types owner acts hold type under m w

pub returns-clause-taken : goal.returns-clause-taken
returns-clause-taken g c = λ types owner acts hold type under m w. takes _ types owner acts hold type under m w

pub returns-clause-copied : goal.returns-clause-copied
returns-clause-copied g c = λ types owner acts hold type under m w. copies _ types owner acts hold type under m w
