use Rattle.au_closed_meanings.proofs.KeptLemmas.{meaning_kept, what_is}
use Rattle.au_closed_meanings.proofs.laws.closing_keeps_meaning.Goals as goal

pub returns-clause-keeps : goal.returns-clause-keeps
returns-clause-keeps c = meaning_kept

pub returns-clause-says : goal.returns-clause-says
returns-clause-says c = what_is
