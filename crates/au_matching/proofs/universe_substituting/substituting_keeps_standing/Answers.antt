use Rattle.au_matching.proofs.SubstitutingFormedLemmas.{standing_kept}
use Rattle.au_matching.proofs.universe_substituting.substituting_keeps_standing.Goals as goal

pub returns : goal.returns
returns c rows params others s t stand formed = standing_kept rows params others s t stand formed
