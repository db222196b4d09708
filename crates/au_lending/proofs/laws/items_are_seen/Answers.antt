use Rattle.au_lending.proofs.BufferSeenLemmas.{items_seen}
use Rattle.au_lending.proofs.laws.items_are_seen.Goals as goal

pub returns : goal.returns
returns c = λ types clock scope act hold type r t z under s m core forms buffers of is scoped.
    items_seen types forms buffers clock scope act hold type r t z under s m core of is scoped
