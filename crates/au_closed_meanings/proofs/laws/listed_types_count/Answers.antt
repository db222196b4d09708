use Rattle.au_closed_meanings.proofs.ListedCountLemmas.{listed_count}
use Rattle.au_closed_meanings.proofs.laws.listed_types_count.Goals as goal

pub returns : goal.returns
returns c = listed_count
