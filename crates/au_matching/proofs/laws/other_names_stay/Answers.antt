use Rattle.au_matching.proofs.SubstitutedLemmas.{stays, untouched}
use Rattle.au_matching.proofs.laws.other_names_stay.Goals as goal

pub returns-clause-unlisted : goal.returns-clause-unlisted
returns-clause-unlisted c = λ s t h. untouched s t h

pub returns-clause-empty : goal.returns-clause-empty
returns-clause-empty c = λ t. stays t
