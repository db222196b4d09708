use Rattle.au_closing_laws.proofs.LeadLemmas.{gathered_own}
use Rattle.au_closing_laws.proofs.gathered.own_types_stand.Goals as goal

pub returns : goal.returns
returns c = gathered_own
