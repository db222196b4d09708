use Rattle.au_safe_acts.proofs.CloseLemmas.{tokens_begin, tokens_end}
use Rattle.au_safe_acts.proofs.laws.tokens_are_safe.Goals as goal

pub returns-clause-begun : goal.returns-clause-begun
returns-clause-begun c = λ types owner acts fs sizes under w.
    tokens_begin types owner acts fs sizes under w

pub returns-clause-ended : goal.returns-clause-ended
returns-clause-ended c = λ types owner acts fs sizes under w.
    tokens_end types owner acts fs sizes under w
