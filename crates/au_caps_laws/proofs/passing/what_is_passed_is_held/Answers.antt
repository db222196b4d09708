use Rattle.au_caps_laws.proofs.PassLemmas.{accepted_calls_listed}
use Rattle.au_caps_laws.proofs.passing.what_is_passed_is_held.Goals as goal

pub returns : goal.returns
returns c = accepted_calls_listed
