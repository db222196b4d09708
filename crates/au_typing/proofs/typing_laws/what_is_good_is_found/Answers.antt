use Rattle.au_typing.proofs.Found.{found}
use Rattle.au_typing.proofs.typing_laws.what_is_good_is_found.Goals as goal

pub returns : goal.returns
returns c = λ scope a good. found scope a good
