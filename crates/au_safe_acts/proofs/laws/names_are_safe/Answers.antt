use Rattle.au_safe_acts.proofs.NameLemmas.{holds_well, looks_well, moves_well, sets_well}
use Rattle.au_safe_acts.proofs.laws.names_are_safe.Goals as goal

pub returns-clause-looked : goal.returns-clause-looked
returns-clause-looked c = λ types owner acts f fs sizes size under w ticks.
    looks_well types owner acts f fs sizes size under w ticks

pub returns-clause-moved : goal.returns-clause-moved
returns-clause-moved c = λ types owner acts f fs sizes size under w ticks.
    moves_well types owner acts f fs sizes size under w ticks

pub returns-clause-held : goal.returns-clause-held
returns-clause-held c = λ types owner acts f fs sizes size under w ticks.
    holds_well types owner acts f fs sizes size under w ticks

pub returns-clause-put : goal.returns-clause-put
returns-clause-put c = λ types owner acts f fs sizes size under w ticks.
    sets_well types owner acts f fs sizes size under w ticks
