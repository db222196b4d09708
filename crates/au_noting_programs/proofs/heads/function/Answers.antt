use Rattle.std.proofs.Common.{arith}
use Rattle.au_syntax.proofs.DeclarationLemmas.{function_says}
use Rattle.au_noting_programs.proofs.heads.function.Goals as goal

pub returns : goal.returns
returns c = grind (arith, function_says)
