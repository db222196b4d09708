use Rattle.au_acting.proofs.ValueLemmas.{drops, drops_writers, plains}
use Rattle.au_acting.proofs.laws.values_hold_nothing.Goals as goal

pub returns-clause-plain : goal.returns-clause-plain
returns-clause-plain g c = λ types owner acts hold type under m w. plains _ types owner acts hold type under m w

pub returns-clause-dropped : goal.returns-clause-dropped
returns-clause-dropped g c = λ types owner acts hold type under m w. drops _ types owner acts hold type under m w

pub returns-clause-writer : goal.returns-clause-writer
returns-clause-writer g c = λ types owner acts hold type under m w. drops_writers _ types owner acts hold type under m w
