use Rattle.au_acting.proofs.NameLemmas.{fills, mentions}
use Rattle.au_acting.proofs.laws.names_come_and_go.Goals as goal

pub returns-clause-mentioned : goal.returns-clause-mentioned
returns-clause-mentioned g c = λ types owner acts hold type under m w. mentions _ types owner acts hold type under m w

pub returns-clause-filled : goal.returns-clause-filled
returns-clause-filled g c = λ types owner acts hold type under m w. fills _ types owner acts hold type under m w
