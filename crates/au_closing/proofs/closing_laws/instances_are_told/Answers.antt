use Rattle.au_closing.proofs.ClosesLemmas.{instances_told}
use Rattle.au_closing.proofs.closing_laws.instances_are_told.Goals as goal

pub returns : goal.returns
returns c = instances_told
