use Rattle.std.proofs.Common.{arith}
use Rattle.au_syntax.proofs.DeclarationLemmas.{record_says}
use Rattle.au_noting_programs.proofs.heads.record_type.Goals as goal

pub returns : goal.returns
returns c = grind (arith, record_says)
