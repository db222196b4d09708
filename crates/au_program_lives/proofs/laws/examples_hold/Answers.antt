use Rattle.std.proofs.Common.{refl}
use Rattle.au_judged_types.specs.Judging.{judged}
use Rattle.au_matching.specs.Universes.{universe_of}
use Rattle.au_program_lives.proofs.laws.examples_hold.Goals as goal

pub returns : goal.returns
unfolding universe_of judged
returns c = (refl, (refl, (refl, (refl, (refl, (refl, tt))))))
