use Rattle.au_running_types.proofs.ClosedLemmas.{type_closes}
use Rattle.au_running_types.proofs.laws.types_close.Goals as goal

pub returns : goal.returns
returns c = λ given s z t each. type_closes s z given t each
