use Rattle.au_low.proofs.MutedRuns.{kept}
use Rattle.au_low.proofs.laws.keeping_changes_events_alone.Goals as goal

pub returns : goal.returns
returns c = λ code input limit. kept code input limit
