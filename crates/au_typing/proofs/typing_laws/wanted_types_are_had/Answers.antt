use Rattle.au_typing.proofs.Wanted.{wanted_is_had}
use Rattle.au_typing.proofs.typing_laws.wanted_types_are_had.Goals as goal

pub returns : goal.returns
returns c = λ scope a good. wanted_is_had scope a good
