-- The wrapped number, and no other number.
use Rattle.au_ints.proofs.Turns.{wrapped_turned, wrapped_is}
use Rattle.au_ints.proofs.laws.wrapped_is_unique.Goals as goal

pub returns : goal.returns
returns c = λ kind z. (wrapped_turned kind z, wrapped_is kind z)
