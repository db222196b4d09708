use Rattle.std.proofs.Common.{arith}
use Rattle.au_syntax.proofs.DeclarationLemmas.{union_says}
use Rattle.au_noting_programs.proofs.heads.union_type.Goals as goal

pub returns : goal.returns
returns c = grind (arith, union_says)
