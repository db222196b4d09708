use Rattle.std.proofs.Common.{arith}
use Rattle.au_matching.proofs.FormedLemmas.{formed_is_some}
use Rattle.au_matching.proofs.forming.is_formed.Goals as goal

pub returns : goal.returns
returns c = grind (arith, formed_is_some)
