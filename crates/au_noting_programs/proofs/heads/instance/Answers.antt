use Rattle.std.proofs.Common.{arith}
use Rattle.au_syntax.proofs.DeclarationLemmas.{instance_says}
use Rattle.au_noting_programs.proofs.heads.instance.Goals as goal

pub returns : goal.returns
returns c = grind (arith, instance_says)
