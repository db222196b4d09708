use Rattle.au_types.proofs.RegionLemmas.{left_entered}
use Rattle.au_types.proofs.region_laws.leaving_undoes_entering.Goals as goal

pub returns : goal.returns
returns c scope name = left_entered scope name
