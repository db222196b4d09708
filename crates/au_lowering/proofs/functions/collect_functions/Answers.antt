use Rattle.std.proofs.lemmas.Grind.{common_steps}
use Rattle.std.proofs.Common.{arith}
use Rattle.au_lowering.proofs.NumberLemmas.{function_texts, function_types}
use Rattle.au_lowering.proofs.functions.collect_functions.Goals as goal

pub loop-one-preserved : goal.loop-one-preserved
loop-one-preserved c = grind (arith, common_steps, function_texts, function_types)
