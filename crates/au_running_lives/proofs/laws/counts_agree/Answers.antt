use Rattle.au_running_lives.proofs.CountLemmas.{counts_agree}
use Rattle.au_running_lives.proofs.laws.counts_agree.Goals as goal

pub returns : goal.returns
returns g c = λ see x free. counts_agree see x free
