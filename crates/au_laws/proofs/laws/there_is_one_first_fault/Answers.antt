use Rattle.au_laws.proofs.OneLemmas.{one_of_block, one_of_expression, one_of_program}
use Rattle.au_laws.proofs.laws.there_is_one_first_fault.Goals as goal

pub returns-clause-expression : goal.returns-clause-expression
returns-clause-expression c = λ scope e mode f g one other. one_of_expression scope e mode f g one other

pub returns-clause-block : goal.returns-clause-block
returns-clause-block c = λ ss sc f g one other. one_of_block ss sc f g one other

pub returns-clause-program : goal.returns-clause-program
returns-clause-program c = λ outside program f g one other. one_of_program outside program f g one other
