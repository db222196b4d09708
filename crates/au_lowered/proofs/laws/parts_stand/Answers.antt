use Rattle.au_lowered.proofs.StandLemmas.{parts_stand}
use Rattle.au_lowered.proofs.laws.parts_stand.Goals as goal

pub returns : goal.returns
returns c = λ get. parts_stand get
