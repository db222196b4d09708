use Rattle.au_lending.proofs.FillLemmas.{filled}
use Rattle.au_lending.proofs.laws.names_fill.Goals as goal

pub returns : goal.returns
returns c = λ types clock scope act hold type v t under s m core frame x is.
    filled types clock scope act hold type v t under s m core frame x is
