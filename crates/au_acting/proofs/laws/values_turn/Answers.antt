use Rattle.au_acting.proofs.TurnLemmas.{drops_plains, turns, uses_readers, uses_seconds, uses_writers}
use Rattle.au_acting.proofs.laws.values_turn.Goals as goal

pub returns-clause-turned : goal.returns-clause-turned
returns-clause-turned g c = λ types owner acts hold type under m w.
    turns _ types owner acts hold type under m w

pub returns-clause-plain : goal.returns-clause-plain
returns-clause-plain g c = λ types owner acts hold type under m w.
    drops_plains _ types owner acts hold type under m w

pub returns-clause-writer : goal.returns-clause-writer
returns-clause-writer g c = λ types owner acts hold type under m w.
    uses_writers _ types owner acts hold type under m w

pub returns-clause-reader : goal.returns-clause-reader
returns-clause-reader g c = λ types owner acts hold type under m w.
    uses_readers _ types owner acts hold type under m w

pub returns-clause-second : goal.returns-clause-second
returns-clause-second g c = λ types owner acts hold type under m w.
    uses_seconds _ types owner acts hold type under m w
