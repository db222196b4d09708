use Rattle.au_clearing.proofs.AbsentLemmas.{left_alone, left_alone_block}
use Rattle.au_clearing.proofs.laws.unmentioned_variables_are_left_alone.Goals as goal

pub returns-clause-statement : goal.returns-clause-statement
returns-clause-statement c x free s h a = left_alone x free s h a

pub returns-clause-block : goal.returns-clause-block
returns-clause-block c x free b h a = left_alone_block x free b h a
