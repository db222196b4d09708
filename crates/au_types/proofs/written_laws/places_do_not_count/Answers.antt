use Rattle.au_types.proofs.MovedLemmas.{meant_moved}
use Rattle.au_types.proofs.written_laws.places_do_not_count.Goals as goal

pub returns : goal.returns
returns c = λ opened params visible heads at t. meant_moved opened params visible heads at t
