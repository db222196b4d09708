use Rattle.au_lending.proofs.SwapLemmas.{swapped}
use Rattle.au_lending.proofs.laws.references_swap.Goals as goal

pub returns : goal.returns
returns c = λ types clock scope act hold type new t r z under s m core forms scoped.
    swapped types forms clock scope act hold type new t r z under s m core scoped
