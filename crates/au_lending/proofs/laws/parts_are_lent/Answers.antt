use Rattle.au_lending.proofs.CaseLemmas.{parts_go}
use Rattle.au_lending.proofs.laws.parts_are_lent.Goals as goal

pub returns : goal.returns
returns c = λ types clock scope act hold type r t z under s m core forms cases tag of is scoped.
    parts_go types forms cases clock scope act hold type r t z under s m core tag of is scoped
