use Rattle.au_lending.proofs.MentionLemmas.{mentioned}
use Rattle.au_lending.proofs.laws.mentions_empty.Goals as goal

pub returns : goal.returns
returns c = λ types clock scope act hold type under s m core frame x is.
    mentioned types clock scope act hold type under s m core frame x is
