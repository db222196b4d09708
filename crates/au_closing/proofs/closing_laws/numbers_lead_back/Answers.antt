use Rattle.au_closing.proofs.ClosesLemmas.{place_back}
use Rattle.au_closing.proofs.closing_laws.numbers_lead_back.Goals as goal

pub returns : goal.returns
returns c = place_back
