use Rattle.au_judged_types.proofs.MeaningLemmas.{each_kept}
use Rattle.au_judged_types.proofs.generic_laws.constraints_are_kept.Goals as goal

pub returns : goal.returns
returns c = λ visible heads written generics are. each_kept visible heads written generics are
