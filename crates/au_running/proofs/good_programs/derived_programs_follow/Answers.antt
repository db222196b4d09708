use Rattle.au_running.proofs.JoinedLemmas.{derived_follow}
use Rattle.au_running.proofs.good_programs.derived_programs_follow.Goals as goal

pub returns : goal.returns
returns c = derived_follow
