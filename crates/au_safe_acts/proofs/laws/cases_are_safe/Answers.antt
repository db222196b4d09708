use Rattle.au_safe_acts.proofs.TellLemmas.{tells_readers_well, tells_values_well, tells_writers_well}
use Rattle.au_safe_acts.proofs.laws.cases_are_safe.Goals as goal

pub returns-clause-value : goal.returns-clause-value
returns-clause-value c = λ types owner acts fs sizes under w ticks.
    tells_values_well types owner acts fs sizes under w ticks

pub returns-clause-writer : goal.returns-clause-writer
returns-clause-writer c = λ types owner acts fs sizes under w ticks.
    tells_writers_well types owner acts fs sizes under w ticks

pub returns-clause-reader : goal.returns-clause-reader
returns-clause-reader c = λ types owner acts fs sizes under w ticks.
    tells_readers_well types owner acts fs sizes under w ticks
