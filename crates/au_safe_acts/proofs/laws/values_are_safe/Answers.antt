use Rattle.au_safe_acts.proofs.MakeLemmas.{apart_well, copies_well, makes_free_well, makes_linear_well}
use Rattle.au_safe_acts.proofs.laws.values_are_safe.Goals as goal

pub returns-clause-free : goal.returns-clause-free
returns-clause-free c = λ types owner acts fs sizes under w ticks.
    makes_free_well types owner acts fs sizes under w ticks

pub returns-clause-linear : goal.returns-clause-linear
returns-clause-linear c = λ types owner acts fs sizes under w ticks.
    makes_linear_well types owner acts fs sizes under w ticks

pub returns-clause-apart : goal.returns-clause-apart
returns-clause-apart c = λ types owner acts fs sizes under w ticks.
    apart_well types owner acts fs sizes under w ticks

pub returns-clause-copied : goal.returns-clause-copied
returns-clause-copied c = λ types owner acts fs sizes under w ticks.
    copies_well types owner acts fs sizes under w ticks
