use Rattle.au_acting.proofs.StartLemmas.{starts}
use Rattle.au_acting.proofs.laws.runs_start.Goals as goal

pub returns : goal.returns
returns g c = λ types owner. starts _ types owner
