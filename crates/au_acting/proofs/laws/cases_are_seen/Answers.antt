use Rattle.au_acting.proofs.CasingLemmas.{drops_readers, has_parts, sees_items, sees_parts}
use Rattle.au_acting.proofs.laws.cases_are_seen.Goals as goal

pub returns-clause-parts : goal.returns-clause-parts
returns-clause-parts g c = λ types owner acts hold type under m w.
    has_parts _ types owner acts hold type under m w

pub returns-clause-seen : goal.returns-clause-seen
returns-clause-seen g c = λ types owner acts hold type under m w.
    sees_parts _ types owner acts hold type under m w

pub returns-clause-items : goal.returns-clause-items
returns-clause-items g c = λ types owner acts hold type under m w.
    sees_items _ types owner acts hold type under m w

pub returns-clause-dropped : goal.returns-clause-dropped
returns-clause-dropped g c = λ types owner acts hold type under m w.
    drops_readers _ types owner acts hold type under m w
