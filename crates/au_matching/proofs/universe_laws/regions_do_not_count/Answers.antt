use Rattle.au_matching.proofs.LawLemmas.{same_universe}
use Rattle.au_matching.proofs.universe_laws.regions_do_not_count.Goals as goal

pub returns : goal.returns
returns c rows params t u same = same_universe rows params t u same
