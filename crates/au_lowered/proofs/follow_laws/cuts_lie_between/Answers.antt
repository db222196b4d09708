use Rattle.au_lowered.proofs.BetweenLemmas.{between}
use Rattle.au_lowered.proofs.follow_laws.cuts_lie_between.Goals as goal

pub returns : goal.returns
returns g c = λ told functions good input limit unstuck unstuck2 cut_off. between told functions good input
    limit unstuck unstuck2 cut_off
