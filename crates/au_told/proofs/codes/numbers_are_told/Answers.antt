use Rattle.std.proofs.Common.{arith}
use Rattle.au_told.proofs.ToldLemmas.{all_short}
use Rattle.au_told.proofs.codes.numbers_are_told.Goals as goal

pub returns : goal.returns
returns c = all_short c.args.all.now (λ i. omega (arith, c.type_inv.all i))
