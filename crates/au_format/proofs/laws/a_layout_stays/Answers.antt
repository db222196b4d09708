use Rattle.au_format.proofs.LawLemmas.{layout_stays}
use Rattle.au_format.proofs.laws.a_layout_stays.Goals as goal

pub returns : goal.returns
returns c = layout_stays
