use Rattle.au_matching.proofs.MatchedLemmas.{makes_found, matched_makes}
use Rattle.au_matching.proofs.laws.the_walk_finds_the_least.Goals as goal

pub returns-clause-sound : goal.returns-clause-sound
returns-clause-sound c = λ p t s q h. matched_makes p t s q h

pub returns-clause-found : goal.returns-clause-found
returns-clause-found c = λ p t s r h. makes_found p t s r h
