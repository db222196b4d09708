use Rattle.au_closed_meanings.proofs.InRowLemmas.{kept_in_row}
use Rattle.au_closed_meanings.proofs.laws.closing_keeps_meaning_in_row.Goals as goal

pub returns : goal.returns
returns c = kept_in_row
