use Rattle.au_names.proofs.WalkLemmas.{heads_once}
use Rattle.au_names.proofs.laws.rows_stand_once.Goals as goal

pub returns : goal.returns
returns c program index row h = heads_once program index row h
