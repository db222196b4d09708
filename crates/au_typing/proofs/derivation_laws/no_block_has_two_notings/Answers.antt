use Rattle.au_typing.proofs.FoundLemmas.{two_blocks, two_statements}
use Rattle.au_typing.proofs.derivation_laws.no_block_has_two_notings.Goals as goal

pub returns-clause-statement : goal.returns-clause-statement
returns-clause-statement c = λ a b sc g h e. two_statements a b sc g h e

pub returns-clause-block : goal.returns-clause-block
returns-clause-block c = λ a b sc g h e. two_blocks a b sc g h e
