use Rattle.au_closing_laws.proofs.SoundLemmas.{typed_closes}
use Rattle.au_closing_laws.proofs.laws.typed_programs_close.Goals as goal

pub returns : goal.returns
returns c = typed_closes
