use Rattle.std.proofs.Common.{arith}
use Rattle.au_program_lives.proofs.VariableLemmas.{sorted_is}
use Rattle.au_program_lives.proofs.functions.function_fault.Goals as goal

pub returns : goal.returns
returns c = grind (arith, sorted_is)
