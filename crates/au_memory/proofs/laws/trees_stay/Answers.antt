use Rattle.au_memory.proofs.FrameLemmas.{shows_written}
use Rattle.au_memory.proofs.GrowthLemmas.{has_grows, shows_grows}
use Rattle.au_memory.proofs.laws.trees_stay.Goals as goal

pub returns-clause-written : goal.returns-clause-written
returns-clause-written c = λ types s m to new t v none h. shows_written types s m to new t v none h

pub returns-clause-grown : goal.returns-clause-grown
returns-clause-grown c = λ types s r m t v u grows.
    (λ h. shows_grows types s r grows m t v h, λ h. has_grows types s r grows t u h)
