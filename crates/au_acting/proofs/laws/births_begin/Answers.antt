use Rattle.au_acting.proofs.ValueLemmas.{makes_boxes, makes_buffers, makes_free, makes_linear}
use Rattle.au_acting.proofs.laws.births_begin.Goals as goal

pub returns-clause-boxes : goal.returns-clause-boxes
returns-clause-boxes g c = λ types owner acts hold type under m w. makes_boxes _ types owner acts hold type under m w

pub returns-clause-buffers : goal.returns-clause-buffers
returns-clause-buffers g c = λ types owner acts hold type under m w. makes_buffers _ types owner acts hold type under m w

pub returns-clause-free : goal.returns-clause-free
returns-clause-free g c = λ types owner acts hold type under m w. makes_free _ types owner acts hold type under m w

pub returns-clause-linear : goal.returns-clause-linear
returns-clause-linear g c = λ types owner acts hold type under m w. makes_linear _ types owner acts hold type under m w
