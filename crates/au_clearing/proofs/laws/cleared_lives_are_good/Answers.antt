use Rattle.au_clearing.proofs.ClearLemmas.{cleared_good}
use Rattle.au_clearing.proofs.laws.cleared_lives_are_good.Goals as goal

pub returns : goal.returns
returns c x sort b h = cleared_good x sort b h
