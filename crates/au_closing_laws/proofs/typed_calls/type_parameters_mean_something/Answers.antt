use Rattle.au_closing_laws.proofs.GenericsLemmas.{bounds_meant}
use Rattle.au_closing_laws.proofs.typed_calls.type_parameters_mean_something.Goals as goal

pub returns : goal.returns
returns c = bounds_meant
