use Rattle.au_caps_laws.proofs.AcceptedLemmas.{accepted_births_reported}
use Rattle.au_caps_laws.proofs.laws.births_are_reported.Goals as goal

pub returns : goal.returns
returns c = accepted_births_reported
