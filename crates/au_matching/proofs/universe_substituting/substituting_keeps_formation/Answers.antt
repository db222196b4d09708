use Rattle.au_matching.proofs.SubstitutingFormedLemmas.{formation_kept}
use Rattle.au_matching.proofs.universe_substituting.substituting_keeps_formation.Goals as goal

pub returns : goal.returns
returns c rows params others s t good formed = formation_kept rows params others s t good formed
