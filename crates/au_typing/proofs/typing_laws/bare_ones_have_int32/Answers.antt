use Rattle.au_typing.proofs.Arguments.{bare_type}
use Rattle.au_typing.proofs.typing_laws.bare_ones_have_int32.Goals as goal

pub returns : goal.returns
returns c = λ scope a good bare none. bare_type scope a good bare none
