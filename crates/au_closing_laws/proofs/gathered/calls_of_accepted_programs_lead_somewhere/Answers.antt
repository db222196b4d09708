use Rattle.au_closing_laws.proofs.LeadLemmas.{accepted_leads, accepted_typed}
use Rattle.au_closing_laws.proofs.gathered.calls_of_accepted_programs_lead_somewhere.Goals as goal

pub returns-clause-typed : goal.returns-clause-typed
returns-clause-typed c = accepted_typed

pub returns-clause-calls : goal.returns-clause-calls
returns-clause-calls c = accepted_leads
