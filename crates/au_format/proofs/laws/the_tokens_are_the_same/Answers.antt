use Rattle.au_format.proofs.LawLemmas.{layout_cuts}
use Rattle.au_format.proofs.laws.the_tokens_are_the_same.Goals as goal

pub returns : goal.returns
returns c = layout_cuts
