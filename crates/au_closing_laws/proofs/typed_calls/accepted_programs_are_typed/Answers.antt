use Rattle.au_closing_laws.proofs.TypedLemmas.{program_typed}
use Rattle.au_closing_laws.proofs.typed_calls.accepted_programs_are_typed.Goals as goal

pub returns : goal.returns
returns c = program_typed
