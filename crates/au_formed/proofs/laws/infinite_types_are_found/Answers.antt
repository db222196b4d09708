use Rattle.au_formed.proofs.LeadLemmas.{infinite_from, infinite_to}
use Rattle.au_formed.proofs.laws.infinite_types_are_found.Goals as goal

pub returns : goal.returns
returns c = λ all a. (infinite_from all a, infinite_to all a)
