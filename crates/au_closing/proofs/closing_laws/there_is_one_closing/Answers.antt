use Rattle.au_closing.proofs.ClosesLemmas.{one_closing}
use Rattle.au_closing.proofs.closing_laws.there_is_one_closing.Goals as goal

pub returns : goal.returns
returns c = one_closing
