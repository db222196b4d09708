use Rattle.au_types.proofs.TypeLemmas.{truth_means}
use Rattle.au_noting_expressions.proofs.operands.truth.Goals as goal

pub returns : goal.returns
returns c = truth_means
