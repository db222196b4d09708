use Rattle.au_memory.proofs.FreeLemmas.{free_in}
use Rattle.au_lending.proofs.ValueLemmas.{dropped, pushed}
use Rattle.au_lending.proofs.laws.values_come_and_go.Goals as goal

pub returns-clause-pushed : goal.returns-clause-pushed
returns-clause-pushed c = λ types clock scope act hold type under s m core v t lawful free tree shown has.
    pushed types clock scope act hold type under s m core v t tree shown has
    (λ id. free_in types lawful s id tree t free has)

pub returns-clause-dropped : goal.returns-clause-dropped
returns-clause-dropped c = λ types clock scope act hold type v t under s m core.
    dropped types clock scope act hold type v t under s m core
