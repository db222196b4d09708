use Rattle.au_closing_laws.proofs.LeadLemmas.{gathered_fields}
use Rattle.au_closing_laws.proofs.gathered.fields_of_types_stand.Goals as goal

pub returns : goal.returns
returns c = gathered_fields
