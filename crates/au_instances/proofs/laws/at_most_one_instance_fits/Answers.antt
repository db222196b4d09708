use Rattle.au_instances.proofs.LawLemmas.{one_closed, one_whole}
use Rattle.au_instances.proofs.laws.at_most_one_instance_fits.Goals as goal

pub returns-clause-whole : goal.returns-clause-whole
returns-clause-whole c = λ rows heads scope class t one other table is also. one_whole rows heads scope class
    t one other table is also

pub returns-clause-closed : goal.returns-clause-closed
returns-clause-closed c = λ rows heads class t one other table is also. one_closed rows heads class t one
    other table is also
