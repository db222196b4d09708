use Rattle.au_safe_acts.proofs.EnterLemmas.{enters_well, leaves_well}
use Rattle.au_safe_acts.proofs.laws.frames_are_safe.Goals as goal

pub returns-clause-entered : goal.returns-clause-entered
returns-clause-entered c = λ types owner acts fs sizes under w.
    enters_well types owner acts fs sizes under w

pub returns-clause-left : goal.returns-clause-left
returns-clause-left c = λ types owner acts fs sizes under w.
    leaves_well types owner acts fs sizes under w
