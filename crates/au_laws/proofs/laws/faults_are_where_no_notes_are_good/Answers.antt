use Rattle.au_laws.proofs.OneLemmas.{no_block_noting, no_derivation, no_noting}
use Rattle.au_laws.proofs.laws.faults_are_where_no_notes_are_good.Goals as goal

pub returns-clause-expression : goal.returns-clause-expression
returns-clause-expression c = λ scope e mode. no_noting scope e mode

pub returns-clause-block : goal.returns-clause-block
returns-clause-block c = λ ss sc. no_block_noting ss sc

pub returns-clause-program : goal.returns-clause-program
returns-clause-program c = λ outside program. no_derivation outside program
