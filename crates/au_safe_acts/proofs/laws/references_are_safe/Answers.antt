use Rattle.au_safe_acts.proofs.BehindLemmas.{readers_read_well, writers_put_well, writers_read_well}
use Rattle.au_safe_acts.proofs.laws.references_are_safe.Goals as goal

pub returns-clause-written : goal.returns-clause-written
returns-clause-written c = λ types owner acts f fs sizes size under w ticks.
    writers_read_well types owner acts f fs sizes size under w ticks

pub returns-clause-read : goal.returns-clause-read
returns-clause-read c = λ types owner acts f fs sizes size under w ticks.
    readers_read_well types owner acts f fs sizes size under w ticks

pub returns-clause-put : goal.returns-clause-put
returns-clause-put c = λ types owner acts f fs sizes size under w ticks.
    writers_put_well types owner acts f fs sizes size under w ticks
