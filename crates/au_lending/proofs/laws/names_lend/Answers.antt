use Rattle.au_lending.proofs.NameLendLemmas.{name_lends}
use Rattle.au_lending.proofs.laws.names_lend.Goals as goal

pub returns : goal.returns
returns c = λ types clock scope act hold type under s m core frame x b z is active.
    name_lends types clock scope act hold type under s m core frame x b z is active
