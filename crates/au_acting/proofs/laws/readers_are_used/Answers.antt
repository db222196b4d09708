use Rattle.au_acting.proofs.ReaderLemmas.{copies, moves, sees_contents}
use Rattle.au_acting.proofs.laws.readers_are_used.Goals as goal

pub returns-clause-moved : goal.returns-clause-moved
returns-clause-moved g c = λ types owner acts hold type under m w. moves _ types owner acts hold type under m w

pub returns-clause-content : goal.returns-clause-content
returns-clause-content g c = λ types owner acts hold type under m w. sees_contents _ types owner acts hold type under m w

pub returns-clause-copied : goal.returns-clause-copied
returns-clause-copied g c = λ types owner acts hold type under m w. copies _ types owner acts hold type under m w
