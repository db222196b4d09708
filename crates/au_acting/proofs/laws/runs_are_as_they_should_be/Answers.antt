use Rattle.au_acting.proofs.EndLemmas.{finishes, tells}
use Rattle.au_acting.proofs.laws.runs_are_as_they_should_be.Goals as goal

pub returns-clause-always : goal.returns-clause-always
returns-clause-always g c = λ types owner acts hold type under m w. tells _ types owner acts hold type under m w

pub returns-clause-finished : goal.returns-clause-finished
returns-clause-finished g c = λ types owner acts hold type under m w. finishes _ types owner acts hold type under m w
