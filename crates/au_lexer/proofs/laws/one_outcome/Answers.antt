use Rattle.au_lexer.proofs.UniqueLemmas.{one_outcome}
use Rattle.au_lexer.proofs.laws.one_outcome.Goals as goal

pub returns : goal.returns
returns c = one_outcome
