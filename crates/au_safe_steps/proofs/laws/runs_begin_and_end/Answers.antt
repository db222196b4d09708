use Rattle.au_safe_steps.proofs.BeginningLemmas.{counts_lying, exits_well, finishes_well, roots_come_well, starts_well}
use Rattle.au_safe_steps.proofs.laws.runs_begin_and_end.Goals as goal

pub returns-clause-started : goal.returns-clause-started
returns-clause-started c = starts_well

pub returns-clause-rooted : goal.returns-clause-rooted
returns-clause-rooted c = λ types owner acts fs sizes under w.
    roots_come_well types owner acts fs sizes under w

pub returns-clause-left : goal.returns-clause-left
returns-clause-left c = λ types owner acts fs sizes under w.
    exits_well types owner acts fs sizes under w

pub returns-clause-lying : goal.returns-clause-lying
returns-clause-lying c = λ types owner acts fs sizes under w.
    counts_lying types owner acts fs sizes under w

pub returns-clause-finished : goal.returns-clause-finished
returns-clause-finished c = finishes_well
