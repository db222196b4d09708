use Rattle.au_tables.proofs.LawfulLemmas.{all_lawful}
use Rattle.au_tables.proofs.laws.types_are_lawful.Goals as goal

pub returns : goal.returns
returns c = λ program fit shipped. all_lawful program fit shipped
