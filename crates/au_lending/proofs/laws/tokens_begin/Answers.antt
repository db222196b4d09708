use Rattle.au_lending.proofs.TokenLemmas.{begun}
use Rattle.au_lending.proofs.laws.tokens_begin.Goals as goal

pub returns : goal.returns
returns c = λ types clock scope act hold type under s m core.
    begun types clock scope act hold type under s m core
