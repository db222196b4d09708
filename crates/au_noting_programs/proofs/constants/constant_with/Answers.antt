use Rattle.std.proofs.Common.{arith}
use Rattle.au_syntax.proofs.DeclarationLemmas.{constant_body_says}
use Rattle.au_noting_programs.proofs.constants.constant_with.Goals as goal

pub returns : goal.returns
returns c = grind (arith, constant_body_says)
