use Rattle.au_format.proofs.LawLemmas.{one_layout}
use Rattle.au_format.proofs.laws.one_layout.Goals as goal

pub returns : goal.returns
returns c = one_layout
