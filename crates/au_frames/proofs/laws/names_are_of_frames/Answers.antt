use Rattle.au_frames.proofs.FrameLemmas.{hold_step, own_hold, own_type, type_step}
use Rattle.au_frames.proofs.laws.names_are_of_frames.Goals as goal

pub returns : goal.returns
returns c = λ f fs x. (own_hold f fs x, own_type f fs x, hold_step f fs x, type_step f fs x)
