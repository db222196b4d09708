use Rattle.au_safe_steps.proofs.ComingLemmas.{drops_well, numbers_are_told, numbers_go_on, plains_come_well, plains_drop_well, reorders_well, tells_well, truths_are_told}
use Rattle.au_safe_steps.proofs.laws.values_come_and_go.Goals as goal

pub returns-clause-told : goal.returns-clause-told
returns-clause-told c = λ types owner acts fs sizes under w.
    tells_well types owner acts fs sizes under w

pub returns-clause-come : goal.returns-clause-come
returns-clause-come c = λ types owner acts fs sizes under w.
    plains_come_well types owner acts fs sizes under w

pub returns-clause-ordered : goal.returns-clause-ordered
returns-clause-ordered c = λ types owner acts fs sizes under w.
    reorders_well types owner acts fs sizes under w

pub returns-clause-plain : goal.returns-clause-plain
returns-clause-plain c = λ types owner acts fs sizes under w.
    plains_drop_well types owner acts fs sizes under w

pub returns-clause-truths : goal.returns-clause-truths
returns-clause-truths c = λ types owner acts fs sizes under w.
    truths_are_told types owner acts fs sizes under w

pub returns-clause-numbers : goal.returns-clause-numbers
returns-clause-numbers c = λ types owner acts fs sizes under w.
    numbers_are_told types owner acts fs sizes under w

pub returns-clause-dropped : goal.returns-clause-dropped
returns-clause-dropped c = λ types owner acts fs sizes under w.
    drops_well types owner acts fs sizes under w

pub returns-clause-next : goal.returns-clause-next
returns-clause-next c = numbers_go_on
