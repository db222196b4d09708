use Rattle.std.proofs.Common.{sym}
use Rattle.au_matching.proofs.SubstitutedLemmas.{fixed_stays, fixes_suits}
use Rattle.au_matching.proofs.laws.what_is_fixed_stays.Goals as goal

pub returns-clause-fixed : goal.returns-clause-fixed
returns-clause-fixed c = λ s r t goes_on h. sym (fixed_stays s r goes_on t h)

pub returns-clause-suits : goal.returns-clause-suits
returns-clause-suits c = λ s t h. fixes_suits s t h
