use Rattle.au_safe_acts.proofs.LendLemmas.{lends_well, reads_well, relends_well}
use Rattle.au_safe_acts.proofs.laws.borrows_are_safe.Goals as goal

pub returns-clause-written : goal.returns-clause-written
returns-clause-written c = λ types owner acts f fs sizes size under w ticks.
    lends_well types owner acts f fs sizes size under w ticks

pub returns-clause-read : goal.returns-clause-read
returns-clause-read c = λ types owner acts f fs sizes size under w ticks.
    reads_well types owner acts f fs sizes size under w ticks

pub returns-clause-again : goal.returns-clause-again
returns-clause-again c = λ types owner acts f fs sizes size under w ticks.
    relends_well types owner acts f fs sizes size under w ticks
