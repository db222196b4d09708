use Rattle.au_typing.proofs.Found.{noted_once}
use Rattle.au_typing.proofs.typing_laws.one_noting.Goals as goal

pub returns : goal.returns
returns c = λ scope a b one other erased modes. noted_once scope a b one other erased modes
