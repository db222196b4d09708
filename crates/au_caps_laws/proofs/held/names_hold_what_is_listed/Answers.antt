use Rattle.au_caps_laws.proofs.HeldLemmas.{accepted_calls_held, accepted_entries_listed, accepted_runs_listed}
use Rattle.au_caps_laws.proofs.held.names_hold_what_is_listed.Goals as goal

pub returns-clause-ways : goal.returns-clause-ways
returns-clause-ways c = accepted_runs_listed

pub returns-clause-calls : goal.returns-clause-calls
returns-clause-calls c = accepted_calls_held

pub returns-clause-entries : goal.returns-clause-entries
returns-clause-entries c = accepted_entries_listed
