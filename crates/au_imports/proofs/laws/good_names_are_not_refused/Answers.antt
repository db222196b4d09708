use Rattle.au_imports.proofs.GoodNameLemmas as lemmas
use Rattle.au_imports.proofs.laws.good_names_are_not_refused.Goals as goal

pub returns : goal.returns
returns c program = (lemmas.good_from program, lemmas.good_accepted program)
