use Rattle.au_safe_ships.proofs.OperatedLemmas.{compares_well, computes_well, equates_well, negates_well}
use Rattle.au_safe_ships.proofs.laws.operations_are_safe.Goals as goal

pub returns-clause-computed : goal.returns-clause-computed
returns-clause-computed c = λ types owner acts fs sizes under w ticks.
    computes_well types owner acts fs sizes under w ticks

pub returns-clause-compared : goal.returns-clause-compared
returns-clause-compared c = λ types owner acts fs sizes under w ticks.
    compares_well types owner acts fs sizes under w ticks

pub returns-clause-equated : goal.returns-clause-equated
returns-clause-equated c = λ types owner acts fs sizes under w ticks.
    equates_well types owner acts fs sizes under w ticks

pub returns-clause-negated : goal.returns-clause-negated
returns-clause-negated c = λ types owner acts fs sizes under w ticks.
    negates_well types owner acts fs sizes under w ticks
