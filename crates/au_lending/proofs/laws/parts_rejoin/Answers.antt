use Rattle.au_lending.proofs.RejoinLemmas.{part_ends}
use Rattle.au_lending.proofs.laws.parts_rejoin.Goals as goal

pub returns : goal.returns
returns c = λ types clock scope act hold type under s m core g l tree k row here from closed newest.
    part_ends types clock scope act hold type under s m core g l tree k row here from closed newest
