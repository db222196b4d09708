use Rattle.au_agreeing.proofs.ToldLemmas.{births_told, closed_told, opened_told, used_told}
use Rattle.au_agreeing.proofs.laws.stores_tell.Goals as goal

pub returns-clause-births : goal.returns-clause-births
returns-clause-births g c = λ w keeps lying. births_told w keeps lying

pub returns-clause-borrows : goal.returns-clause-borrows
returns-clause-borrows g c = λ w keeps. (opened_told w keeps, used_told w keeps, closed_told w keeps)
