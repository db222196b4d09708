use Rattle.au_laws.proofs.DerivedLemmas.{block_derived}
use Rattle.au_laws.proofs.sort_laws.sorts_of_blocks_are_derived.Goals as goal

pub returns : goal.returns
returns c b sc good = block_derived b sc good
