use Rattle.au_lives.proofs.BreachLemmas.{first_breach}
use Rattle.au_lives.proofs.laws.the_first_breach_is_told.Goals as goal

pub returns : goal.returns
returns c x sort kind steps h = first_breach x sort kind steps h
