use Rattle.au_closing_laws.proofs.MeantLemmas.{call_meant}
use Rattle.au_closing_laws.proofs.typed_calls.calls_are_meant.Goals as goal

pub returns : goal.returns
returns c = call_meant
