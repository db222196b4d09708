use Rattle.au_judged_bodies.proofs.CalleeLemmas.{callee_stands, regions_stand, types_usable}
use Rattle.au_judged_bodies.proofs.called_types.callees_stand.Goals as goal

pub returns : goal.returns
returns c = λ heads params regions given s z inner put stands is. (
  callee_stands heads params regions given s z inner put stands is,
  λ active here opened. (
    regions_stand heads params regions given s z inner put stands is active here opened,
    types_usable heads params regions given s z inner put stands is active here opened,
  ),
)
