use Rattle.au_closing_laws.proofs.AcceptedLemmas.{accepted_gathered}
use Rattle.au_closing_laws.proofs.gathered.accepted_programs_are_gathered.Goals as goal

pub returns : goal.returns
returns c = accepted_gathered
