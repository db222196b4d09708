use Rattle.au_closing.proofs.ClosesLemmas.{called_too, entry_first}
use Rattle.au_closing.proofs.closing_laws.what_is_reached_is_listed.Goals as goal

pub returns-clause-entry : goal.returns-clause-entry
returns-clause-entry c = entry_first

pub returns-clause-calls : goal.returns-clause-calls
returns-clause-calls c = called_too
