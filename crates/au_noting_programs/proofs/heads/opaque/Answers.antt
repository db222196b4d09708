use Rattle.std.proofs.Common.{arith}
use Rattle.au_syntax.proofs.DeclarationLemmas.{opaque_says}
use Rattle.au_noting_programs.proofs.heads.opaque.Goals as goal

pub returns : goal.returns
returns c = grind (arith, opaque_says)
