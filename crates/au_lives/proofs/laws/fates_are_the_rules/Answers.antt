use Rattle.au_lives.proofs.GoodLemmas.{fate_good, good_fate}
use Rattle.au_lives.proofs.laws.fates_are_the_rules.Goals as goal

pub returns-clause-good : goal.returns-clause-good
returns-clause-good c x sort steps spent h = fate_good x sort steps spent h

pub returns-clause-going : goal.returns-clause-going
returns-clause-going c x sort steps h = good_fate x sort steps h
