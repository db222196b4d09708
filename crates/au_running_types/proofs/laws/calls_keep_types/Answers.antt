use Rattle.au_running_types.proofs.NameLemmas.{callees_run, more_run, type_called}
use Rattle.au_running_types.proofs.laws.calls_keep_types.Goals as goal

pub returns-clause-types : goal.returns-clause-types
returns-clause-types c = λ s first second z y t runs lasts fixed.
    type_called s first second z y runs t lasts fixed

pub returns-clause-callees : goal.returns-clause-callees
returns-clause-callees c = λ s noted z. callees_run s noted z

pub returns-clause-more : goal.returns-clause-more
returns-clause-more c = λ s first second z name value runs. more_run s first second z name value runs
