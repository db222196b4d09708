use Rattle.au_written_types.proofs.MeantLemmas.{meant_written}
use Rattle.au_written_types.proofs.laws.meanings_are_written.Goals as goal

pub returns : goal.returns
returns c = λ opened params visible heads w t e. meant_written opened params visible heads w t e
