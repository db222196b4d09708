use Rattle.au_safe_acts.proofs.CallLemmas.{comes_safely, goes_safely}
use Rattle.au_safe_acts.proofs.laws.calls_are_safe.Goals as goal

pub returns-clause-operation : goal.returns-clause-operation
returns-clause-operation c = λ types owner acts fs sizes under w ticks.
    comes_safely types owner acts fs sizes under w ticks

pub returns-clause-shipped : goal.returns-clause-shipped
returns-clause-shipped c = λ types owner acts fs sizes under w ticks.
    goes_safely types owner acts fs sizes under w ticks
