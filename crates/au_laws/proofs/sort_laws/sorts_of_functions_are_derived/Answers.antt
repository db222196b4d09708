use Rattle.au_laws.proofs.FunctionLemmas.{function_derived}
use Rattle.au_laws.proofs.sort_laws.sorts_of_functions_are_derived.Goals as goal

pub returns : goal.returns
returns c outside generics header body good = function_derived outside generics header body good
