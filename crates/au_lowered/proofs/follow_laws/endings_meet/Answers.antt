use Rattle.au_lowered.proofs.EndLemmas.{has_ended}
use Rattle.au_lowered.proofs.follow_laws.endings_meet.Goals as goal

pub returns : goal.returns
returns g c = λ told functions good input limit unstuck ended. has_ended told functions good input limit unstuck ended
