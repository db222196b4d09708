use Rattle.au_lexer.proofs.UniqueLemmas.{one_cut}
use Rattle.au_lexer.proofs.laws.one_cut.Goals as goal

pub returns : goal.returns
returns c = one_cut
