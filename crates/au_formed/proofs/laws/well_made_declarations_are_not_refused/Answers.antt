use Rattle.au_formed.proofs.WellMadeLemmas.{well_made_from, well_made_to}
use Rattle.au_formed.proofs.laws.well_made_declarations_are_not_refused.Goals as goal

pub returns : goal.returns
returns c = λ visible heads d. (well_made_from visible heads d, well_made_to visible heads d)
