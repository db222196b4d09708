use Rattle.au_ahead.proofs.ReadyLemmas.{consumes, lends, looks, reads, skipped, step_ready}
use Rattle.au_ahead.proofs.laws.steps_are_ready.Goals as goal

pub returns-clause-steps : goal.returns-clause-steps
returns-clause-steps c = λ h k spent after seen e. step_ready h k spent after seen e

pub returns-clause-actions : goal.returns-clause-actions
returns-clause-actions c = λ st r. (
  λ h. consumes st r h,
  λ h. lends st r h,
  λ h. reads st r h,
  λ h. looks st r h,
)

pub returns-clause-parts : goal.returns-clause-parts
returns-clause-parts c = λ st k r h. skipped st k r h
