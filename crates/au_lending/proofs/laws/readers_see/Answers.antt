use Rattle.au_lending.proofs.SeenLemmas.{content_seen, copied, moves, sees}
use Rattle.au_lending.proofs.laws.readers_see.Goals as goal

pub returns-clause-seen : goal.returns-clause-seen
returns-clause-seen c = λ types clock scope act hold type r t z under s m core forms scoped.
    sees types forms clock scope act hold type r t z under s m core scoped

pub returns-clause-moved : goal.returns-clause-moved
returns-clause-moved c = λ types clock scope act hold type r t z under s m core forms see more two there.
    moves types forms clock scope act hold type r t z under s m core see more two there

pub returns-clause-content : goal.returns-clause-content
returns-clause-content c = λ types clock scope act hold type r t z under s m core forms boxes of is scoped.
    content_seen types forms clock scope act hold type r t z under s m core boxes of is scoped

pub returns-clause-copied : goal.returns-clause-copied
returns-clause-copied c = λ types clock scope act hold type r t z under s m core forms cases lawful path u leads free scoped.
    copied types forms clock scope act hold type r t z under s m core cases lawful path u leads free scoped
