use Rattle.au_lending.proofs.SeenLemmas.{looked, looked_behind}
use Rattle.au_lending.proofs.laws.names_are_looked_at.Goals as goal

pub returns-clause-looked : goal.returns-clause-looked
returns-clause-looked c = λ types clock scope act hold type under s m core frame x forms cases lawful is path u leads free.
    looked types forms cases lawful clock scope act hold type under s m core frame x is path u leads free

pub returns-clause-behind : goal.returns-clause-behind
returns-clause-behind c = λ types clock scope act hold type under s m core frame x forms cases lawful is t z typed scoped path u
    leads free.
    looked_behind types forms cases lawful clock scope act hold type under s m core frame x is t z typed scoped path u
    leads free
