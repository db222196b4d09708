use Rattle.au_instances.proofs.LawLemmas.{pairs_alone, pairs_with}
use Rattle.au_instances.proofs.laws.pairs_follow_the_rows.Goals as goal

pub returns-clause-alone : goal.returns-clause-alone
returns-clause-alone c = λ rows heads scope class t table none. pairs_alone rows heads scope class t table none

pub returns-clause-with_row : goal.returns-clause-with_row
returns-clause-with_row c = λ rows heads scope class t row table is. pairs_with rows heads scope class t row table is
