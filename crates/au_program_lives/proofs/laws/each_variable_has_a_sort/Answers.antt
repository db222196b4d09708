use Rattle.au_program_lives.proofs.LengthLemmas.{as_many}
use Rattle.au_program_lives.proofs.laws.each_variable_has_a_sort.Goals as goal

pub returns : goal.returns
returns c parameters body sc = as_many parameters body sc
