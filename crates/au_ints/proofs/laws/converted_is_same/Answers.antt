-- The choice is by the tests of the two facts.
use Rattle.au_ints.proofs.Traps.{converted_chosen}
use Rattle.au_ints.proofs.laws.converted_is_same.Goals as goal

pub returns : goal.returns
returns c = converted_chosen
