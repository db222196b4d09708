use Rattle.au_closing_laws.proofs.LeadLemmas.{gathered_seen}
use Rattle.au_closing_laws.proofs.PutStandLemmas.{put_types_stand}
use Rattle.au_closing_laws.proofs.gathered.types_that_calls_put_stand.Goals as goal

pub returns-clause-put : goal.returns-clause-put
returns-clause-put c = put_types_stand

pub returns-clause-seen : goal.returns-clause-seen
returns-clause-seen c = gathered_seen
