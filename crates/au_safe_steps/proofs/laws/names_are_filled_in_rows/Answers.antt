use Rattle.au_safe_steps.proofs.FillingLemmas.{empties_well, fills_well}
use Rattle.au_safe_steps.proofs.laws.names_are_filled_in_rows.Goals as goal

pub returns-clause-filled : goal.returns-clause-filled
returns-clause-filled c = λ types owner acts f fs sizes size under w.
    fills_well types owner acts f fs sizes size under w

pub returns-clause-emptied : goal.returns-clause-emptied
returns-clause-emptied c = λ types owner acts f fs sizes size under w.
    empties_well types owner acts f fs sizes size under w
