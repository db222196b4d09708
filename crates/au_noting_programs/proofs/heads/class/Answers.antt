use Rattle.std.proofs.Common.{arith}
use Rattle.au_syntax.proofs.DeclarationLemmas.{class_says}
use Rattle.au_noting_programs.proofs.heads.class.Goals as goal

pub returns : goal.returns
returns c = grind (arith, class_says)
