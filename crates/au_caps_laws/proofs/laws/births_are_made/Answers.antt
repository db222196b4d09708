use Rattle.au_caps_laws.proofs.AcceptedLemmas.{accepted_births_made}
use Rattle.au_caps_laws.proofs.laws.births_are_made.Goals as goal

pub returns : goal.returns
returns c = accepted_births_made
