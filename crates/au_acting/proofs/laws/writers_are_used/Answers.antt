use Rattle.au_acting.proofs.BehindLemmas.{lends_contents, lends_parts, swaps}
use Rattle.au_acting.proofs.laws.writers_are_used.Goals as goal

pub returns-clause-swapped : goal.returns-clause-swapped
returns-clause-swapped g c = λ types owner acts hold type under m w. swaps _ types owner acts hold type under m w

pub returns-clause-content : goal.returns-clause-content
returns-clause-content g c = λ types owner acts hold type under m w. lends_contents _ types owner acts hold type under m w

pub returns-clause-parts : goal.returns-clause-parts
returns-clause-parts g c = λ types owner acts hold type under m w. lends_parts _ types owner acts hold type under m w
