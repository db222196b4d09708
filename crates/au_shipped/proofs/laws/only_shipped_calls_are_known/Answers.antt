use Rattle.au_shipped.specs.Calls.{calls}
use Rattle.au_shipped.proofs.CallLemmas.{called_in}
use Rattle.au_shipped.proofs.laws.only_shipped_calls_are_known.Goals as goal

pub returns : goal.returns
returns c = λ home call of. called_in (calls of) home call
