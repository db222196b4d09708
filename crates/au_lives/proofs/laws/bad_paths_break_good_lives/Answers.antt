use Rattle.au_lives.proofs.WholeLemmas.{bad_not_good}
use Rattle.au_lives.proofs.laws.bad_paths_break_good_lives.Goals as goal

pub returns : goal.returns
returns c x sort b kind path h g = bad_not_good x sort b kind path h g.paths
