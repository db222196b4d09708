use Rattle.au_matching.proofs.ReplacedLemmas.{universe_stays}
use Rattle.au_matching.proofs.universe_laws.values_keep_universes.Goals as goal

pub returns : goal.returns
returns c rows params others value t fit formed = universe_stays rows params others value fit t formed
