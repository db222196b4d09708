use Rattle.au_running.proofs.JoinedLemmas.{none_is_good}
use Rattle.au_running.proofs.good_programs.no_closed_view_is_good.Goals as goal

pub returns : goal.returns
returns c = none_is_good
