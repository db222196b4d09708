use Rattle.au_typing.proofs.SoundLemmas.{block_sound, statement_sound}
use Rattle.au_typing.proofs.derivation_laws.found_blocks_are_good.Goals as goal

pub returns-clause-statement : goal.returns-clause-statement
returns-clause-statement c = λ s sc found h. statement_sound s sc found h

pub returns-clause-block : goal.returns-clause-block
returns-clause-block c = λ ss sc found h. block_sound ss sc found h
