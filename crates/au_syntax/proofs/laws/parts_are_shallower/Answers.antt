use Rattle.au_syntax.proofs.PartLemmas.{parts_shallower}
use Rattle.au_syntax.proofs.laws.parts_are_shallower.Goals as goal

pub returns : goal.returns
returns c e = parts_shallower e
