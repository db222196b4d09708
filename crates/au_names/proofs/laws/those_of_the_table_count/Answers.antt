use Rattle.au_names.proofs.WalkLemmas.{counting_numbers}
use Rattle.au_names.proofs.laws.those_of_the_table_count.Goals as goal

pub returns : goal.returns
returns c ds = counting_numbers ds
