use Rattle.au_lives.proofs.WholeLemmas.{yes_good, good_yes}
use Rattle.au_lives.proofs.laws.the_walk_decides_paths.Goals as goal

pub returns-clause-yes : goal.returns-clause-yes
returns-clause-yes c x sort b o k h = yes_good x sort b o k h

pub returns-clause-good : goal.returns-clause-good
returns-clause-good c x sort b k g = good_yes x sort b k g
