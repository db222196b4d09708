use Rattle.au_lending.proofs.BufferLemmas.{puts_items}
use Rattle.au_lending.proofs.laws.items_are_put.Goals as goal

pub returns : goal.returns
returns c = λ types clock scope act hold type new r t of z under s m core forms buffers is scoped.
    puts_items types forms buffers clock scope act hold type new r t of z under s m core is scoped
