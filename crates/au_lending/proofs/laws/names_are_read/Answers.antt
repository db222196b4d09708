use Rattle.au_lending.proofs.ReadLemmas.{read}
use Rattle.au_lending.proofs.laws.names_are_read.Goals as goal

pub returns : goal.returns
returns c = λ types clock scope act hold type under s m core frame x b z is active.
    read types clock scope act hold type under s m core frame x is b z active
