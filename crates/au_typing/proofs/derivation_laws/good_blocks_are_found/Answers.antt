use Rattle.au_typing.proofs.FoundLemmas.{block_found, statement_found}
use Rattle.au_typing.proofs.derivation_laws.good_blocks_are_found.Goals as goal

pub returns-clause-statement : goal.returns-clause-statement
returns-clause-statement c = λ s sc g. statement_found s sc g

pub returns-clause-block : goal.returns-clause-block
returns-clause-block c = λ ss sc g. block_found ss sc g
