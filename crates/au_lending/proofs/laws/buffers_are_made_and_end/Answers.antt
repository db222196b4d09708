use Rattle.au_lending.proofs.BufferEndLemmas.{buffer_ends, buffer_made}
use Rattle.au_lending.proofs.laws.buffers_are_made_and_end.Goals as goal

pub returns-clause-made : goal.returns-clause-made
returns-clause-made c = λ types clock scope act hold type under s m core t of i is unborn.
    buffer_made types clock scope act hold type under s m core t of i is unborn

pub returns-clause-ended : goal.returns-clause-ended
returns-clause-ended c = λ types clock scope act hold type v t of under s m core forms buffers is.
    buffer_ends types forms buffers clock scope act hold type v t of under s m core is
