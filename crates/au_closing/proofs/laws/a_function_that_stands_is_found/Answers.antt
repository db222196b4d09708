use Rattle.au_closing.proofs.NamingLemmas.{stands_found}
use Rattle.au_closing.proofs.laws.a_function_that_stands_is_found.Goals as goal

pub returns : goal.returns
returns c = stands_found
