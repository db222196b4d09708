use Rattle.au_typing.proofs.Refused.{refused_exactly}
use Rattle.au_typing.proofs.typing_laws.what_is_refused_has_no_noting.Goals as goal

pub returns : goal.returns
returns c = λ scope e mode. refused_exactly scope e mode
