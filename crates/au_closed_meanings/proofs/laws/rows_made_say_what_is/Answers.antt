use Rattle.au_closed_meanings.proofs.ListedLemmas.{rows_say}
use Rattle.au_closed_meanings.proofs.laws.rows_made_say_what_is.Goals as goal

pub returns : goal.returns
returns c = rows_say
