use Rattle.au_lending.proofs.TokenEndLemmas.{token_ends}
use Rattle.au_lending.proofs.laws.tokens_end.Goals as goal

pub returns : goal.returns
returns c = λ types clock scope act hold type under s m core z newest.
    token_ends types clock scope act hold type under s m core z newest
