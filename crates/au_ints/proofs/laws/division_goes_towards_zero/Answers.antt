-- The quotient, and no other number.
use Rattle.au_ints.proofs.Quotients.{quotient_is, quotient_once}
use Rattle.au_ints.proofs.laws.division_goes_towards_zero.Goals as goal

pub returns : goal.returns
returns c = λ a b some. (quotient_is a b some, λ q. quotient_once a b q some)
