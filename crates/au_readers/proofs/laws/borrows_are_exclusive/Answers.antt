use Rattle.au_readers.proofs.ExclusiveLemmas.{held_apart, held_spares}
use Rattle.au_readers.proofs.laws.borrows_are_exclusive.Goals as goal

pub returns-clause-writers : goal.returns-clause-writers
returns-clause-writers c = λ types clock scope act hold type under s m core ordered b only one other p q differ first second
    overlap. held_apart types clock scope act hold type under s m core b only ordered one other p q differ first second overlap

pub returns-clause-reads : goal.returns-clause-reads
returns-clause-reads c = λ types clock scope act hold type under s m core b only spot p held r n from tree row via in_scope
    overlap. held_spares types clock scope act hold type under s m core b only spot p held r n from tree row via in_scope overlap
