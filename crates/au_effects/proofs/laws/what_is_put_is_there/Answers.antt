use Rattle.au_effects.proofs.PartLemmas.{part_put}
use Rattle.au_effects.proofs.laws.what_is_put_is_there.Goals as goal

pub returns : goal.returns
returns c = λ path value old new h. part_put path new value old h
