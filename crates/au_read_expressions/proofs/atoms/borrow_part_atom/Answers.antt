use Rattle.std.proofs.Common.{arith}
use Rattle.std.proofs.lemmas.Grind.{common_steps}
use Rattle.au_syntax.proofs.ExpressionLemmas.{borrow_part_says}
use Rattle.au_read_expressions.proofs.atoms.borrow_part_atom.Goals as goal

pub returns : goal.returns
returns c = grind (arith, common_steps, borrow_part_says)
