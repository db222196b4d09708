use Rattle.au_running.proofs.GoodLemmas.{guarded_good}
use Rattle.au_running.proofs.good_programs.guarded_are_good.Goals as goal

pub returns : goal.returns
returns g c = guarded_good _ _
