use Rattle.au_judged_types.proofs.MeaningLemmas.{params_written}
use Rattle.au_judged_types.proofs.generic_laws.parameters_are_as_written.Goals as goal

pub returns : goal.returns
returns c = λ visible heads written generics are. params_written visible heads written generics are
