-- The choice is by the tests of the two facts.
use Rattle.au_ints.proofs.Traps.{trapped_chosen}
use Rattle.au_ints.proofs.laws.trapped_is_exact.Goals as goal

pub returns : goal.returns
returns c = trapped_chosen
