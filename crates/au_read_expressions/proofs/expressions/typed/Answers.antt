use Rattle.std.proofs.Common.{arith}
use Rattle.std.proofs.lemmas.Grind.{common_steps}
use Rattle.au_syntax.proofs.ExpressionLemmas.{typed_says}
use Rattle.au_read_expressions.proofs.expressions.typed.Goals as goal

pub returns : goal.returns
returns c = grind (arith, common_steps, typed_says)
