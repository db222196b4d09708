use Rattle.au_acting.proofs.ValueLemmas.{ends_buffers, opens_boxes, opens_cases}
use Rattle.au_acting.proofs.laws.births_end.Goals as goal

pub returns-clause-boxes : goal.returns-clause-boxes
returns-clause-boxes g c = λ types owner acts hold type under m w. opens_boxes _ types owner acts hold type under m w

pub returns-clause-cases : goal.returns-clause-cases
returns-clause-cases g c = λ types owner acts hold type under m w. opens_cases _ types owner acts hold type under m w

pub returns-clause-buffers : goal.returns-clause-buffers
returns-clause-buffers g c = λ types owner acts hold type under m w. ends_buffers _ types owner acts hold type under m w
