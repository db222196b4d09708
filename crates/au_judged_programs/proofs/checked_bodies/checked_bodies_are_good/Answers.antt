use Rattle.au_judged_programs.proofs.CheckedBodiesBodyLemmas.{bodies_good}
use Rattle.au_judged_programs.proofs.checked_bodies.checked_bodies_are_good.Goals as goal

pub returns : goal.returns
returns c = λ program noted checked first one f known. bodies_good program noted checked first one f known
