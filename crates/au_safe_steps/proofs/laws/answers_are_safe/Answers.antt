use Rattle.au_safe_steps.proofs.AnsweringLemmas.{answers_well, hears_well}
use Rattle.au_safe_steps.proofs.laws.answers_are_safe.Goals as goal

pub returns-clause-told : goal.returns-clause-told
returns-clause-told c = λ types owner acts fs sizes under w ticks.
    answers_well types owner acts fs sizes under w ticks

pub returns-clause-heard : goal.returns-clause-heard
returns-clause-heard c = λ types owner acts fs sizes under w ticks.
    hears_well types owner acts fs sizes under w ticks
