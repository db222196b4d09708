use Rattle.au_laws.proofs.BlockLemmas.{block_tells, fault_in_fails, fault_of_fails, statement_tells}
use Rattle.au_laws.proofs.laws.the_first_fault_in_a_block_is_told.Goals as goal

pub returns-clause-statement : goal.returns-clause-statement
returns-clause-statement c = λ s sc fault. (statement_tells s sc fault, fault_of_fails s sc fault)

pub returns-clause-block : goal.returns-clause-block
returns-clause-block c = λ ss sc fault. (block_tells ss sc fault, fault_in_fails ss sc fault)
