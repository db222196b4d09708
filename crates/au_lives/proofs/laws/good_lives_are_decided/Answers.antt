use Rattle.au_lives.proofs.WholeLemmas.{yes_good, good_yes}
use Rattle.au_lives.proofs.laws.good_lives_are_decided.Goals as goal

pub returns-clause-yes : goal.returns-clause-yes
returns-clause-yes c x sort b o k p h = record { paths = yes_good x sort b o k h; loops = k; parts = p }

pub returns-clause-good : goal.returns-clause-good
returns-clause-good c x sort b g = (g.loops, g.parts, good_yes x sort b g.loops g.paths)
