use Rattle.au_running_types.proofs.NameLemmas.{type_alike, type_lasts}
use Rattle.au_running_types.proofs.laws.types_stay.Goals as goal

pub returns-clause-lasting : goal.returns-clause-lasting
returns-clause-lasting c = λ s z y t lasts. type_lasts s z y t lasts

pub returns-clause-other : goal.returns-clause-other
returns-clause-other c = λ s r z t alike. type_alike s r z t alike
