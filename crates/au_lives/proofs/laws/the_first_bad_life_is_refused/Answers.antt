use Rattle.au_lives.proofs.RefusalLemmas.{none_refused, some_refused, all_good}
use Rattle.au_lives.proofs.laws.the_first_bad_life_is_refused.Goals as goal

pub returns-clause-none : goal.returns-clause-none
returns-clause-none c vs = (none_refused vs, all_good vs)

pub returns-clause-some : goal.returns-clause-some
returns-clause-some c vs r h = some_refused vs r h
