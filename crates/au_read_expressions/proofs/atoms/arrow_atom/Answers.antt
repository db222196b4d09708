use Rattle.std.proofs.Common.{arith}
use Rattle.std.proofs.lemmas.Grind.{common_steps}
use Rattle.au_syntax.proofs.ExpressionLemmas.{arrow_says}
use Rattle.au_read_expressions.proofs.atoms.arrow_atom.Goals as goal

pub returns : goal.returns
returns c = grind (arith, common_steps, arrow_says)
