use Rattle.au_laws.proofs.ProgramLemmas.{program_fails, program_tells}
use Rattle.au_laws.proofs.laws.the_first_fault_in_a_program_is_told.Goals as goal

pub returns : goal.returns
returns c = λ outside program fault. (program_tells outside program fault, program_fails outside program fault)
