use Rattle.au_lending.proofs.EndLemmas.{ended}
use Rattle.au_lending.proofs.laws.loans_end.Goals as goal

pub returns : goal.returns
returns c = λ types clock scope act hold type under s m core g l tree k row here lends closed.
    ended types clock scope act hold type under s m core g l row tree here k lends closed
