use Rattle.au_typing.proofs.OrderLemmas.{next_fails}
use Rattle.au_typing.proofs.typing_laws.faults_come_in_order.Goals as goal

pub returns : goal.returns
returns c = λ scope e part mode own fault next told. next_fails scope e part mode own fault next told
