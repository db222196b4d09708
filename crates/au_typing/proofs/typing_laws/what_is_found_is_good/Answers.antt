use Rattle.au_typing.proofs.Sound.{sound}
use Rattle.au_typing.proofs.typing_laws.what_is_found_is_good.Goals as goal

pub returns : goal.returns
returns c = λ scope e mode a is. sound scope e mode a is
