use Rattle.au_names.proofs.DeclaredRowLemmas.{meant_row}
use Rattle.au_names.proofs.laws.declared_types_have_rows.Goals as goal

pub returns : goal.returns
returns c = λ opened params visible heads t at args h. meant_row opened params visible heads t at args h
