use Rattle.au_lending.proofs.TakenLemmas.{takes_items}
use Rattle.au_lending.proofs.laws.items_are_taken.Goals as goal

pub returns : goal.returns
returns c = λ types clock scope act hold type r t of z under s m core forms buffers is scoped.
    takes_items types forms buffers clock scope act hold type r t of z under s m core is scoped
