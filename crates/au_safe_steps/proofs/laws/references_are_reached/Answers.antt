use Rattle.au_safe_steps.proofs.ReachingLemmas.{copies_writers_well, operands_copy_well, refers_well}
use Rattle.au_safe_steps.proofs.RegionLemmas.{names_have_tokens, references_have_tokens}
use Rattle.au_safe_steps.proofs.laws.references_are_reached.Goals as goal

pub returns-clause-writer : goal.returns-clause-writer
returns-clause-writer c = λ types owner acts fs sizes under w ticks.
    copies_writers_well types owner acts fs sizes under w ticks

pub returns-clause-part : goal.returns-clause-part
returns-clause-part c = λ types owner acts f fs sizes size under w ticks.
    refers_well types owner acts f fs sizes size under w ticks

pub returns-clause-operand : goal.returns-clause-operand
returns-clause-operand c = λ types owner acts f fs sizes size under w ticks.
    operands_copy_well types owner acts f fs sizes size under w ticks

pub returns-clause-regions : goal.returns-clause-regions
returns-clause-regions c = references_have_tokens

pub returns-clause-names : goal.returns-clause-names
returns-clause-names c = names_have_tokens
