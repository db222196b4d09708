use Rattle.au_syntax.proofs.PartLemmas.{parts_smaller}
use Rattle.au_syntax.proofs.laws.parts_are_smaller.Goals as goal

pub returns : goal.returns
returns c e = parts_smaller e
