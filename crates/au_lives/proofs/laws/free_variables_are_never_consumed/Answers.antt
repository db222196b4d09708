use Rattle.au_lives.proofs.FreeLemmas.{none_consumed}
use Rattle.au_lives.proofs.laws.free_variables_are_never_consumed.Goals as goal

pub returns : goal.returns
returns c x steps = none_consumed x steps
