use Rattle.au_format.proofs.LawLemmas.{layout_keeps}
use Rattle.au_format.proofs.laws.all_is_kept.Goals as goal

pub returns : goal.returns
returns c = layout_keeps
