use Rattle.au_ahead.proofs.WalkLemmas.{good_ahead}
use Rattle.au_ahead.proofs.laws.good_lives_are_ahead.Goals as goal

pub returns : goal.returns
returns c = λ x sort b life. good_ahead x sort b life
