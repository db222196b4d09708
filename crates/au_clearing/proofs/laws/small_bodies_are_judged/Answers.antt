use Rattle.std.proofs.Common.{refl}
use Rattle.au_clearing.proofs.laws.small_bodies_are_judged.Goals as goal

pub returns : goal.returns
returns c = (refl, (refl, (refl, (refl, (refl, (refl, (refl, (refl, tt))))))))
