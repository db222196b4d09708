use Rattle.au_meaning.proofs.MeaningGrowth.{ticks_are_spent}
use Rattle.au_meaning.proofs.laws.ticks_are_spent.Goals as goal

pub returns : goal.returns
returns g c = λ functions depth one args world ticks. ticks_are_spent functions depth one args world ticks
