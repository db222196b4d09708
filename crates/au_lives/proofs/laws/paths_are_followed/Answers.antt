use Rattle.std.proofs.Common.{refl}
use Rattle.au_lives.proofs.laws.paths_are_followed.Goals as goal

pub returns-clause-met : goal.returns-clause-met
returns-clause-met c = (refl, (refl, (refl, (refl, (refl, (refl, (refl, (refl, (refl, (refl, tt))))))))))

pub returns-clause-done : goal.returns-clause-done
returns-clause-done c = (refl, (refl, (refl, (refl, (refl, (refl, (refl, (refl, (refl, (refl, tt))))))))))
