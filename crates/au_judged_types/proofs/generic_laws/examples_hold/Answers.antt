use Rattle.std.proofs.Common.{refl}
use Rattle.au_judged_types.proofs.generic_laws.examples_hold.Goals as goal

pub returns-clause-meant : goal.returns-clause-meant
returns-clause-meant c = (refl, (refl, (refl, (refl, (refl, (refl, (refl, (refl, tt))))))))
