use Rattle.au_lives.proofs.RefusalLemmas.{told_none, told_some, good_none, refused_bad}
use Rattle.au_lives.proofs.laws.refusals_are_right.Goals as goal

pub returns-clause-none : goal.returns-clause-none
returns-clause-none c x sort b = (told_none x sort b, good_none x sort b)

pub returns-clause-some : goal.returns-clause-some
returns-clause-some c x sort b why h = told_some x sort b why h

pub returns-clause-bad : goal.returns-clause-bad
returns-clause-bad c x sort b why h g = refused_bad x sort b why h g
