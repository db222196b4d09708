use Rattle.au_caps_laws.proofs.ReachLemmas.{types_reach, written_types_reach}
use Rattle.au_caps_laws.proofs.reach.types_reach_by_what_stands_in_them.Goals as goal

pub returns-clause-meant : goal.returns-clause-meant
returns-clause-meant c = types_reach

pub returns-clause-written : goal.returns-clause-written
returns-clause-written c = written_types_reach
