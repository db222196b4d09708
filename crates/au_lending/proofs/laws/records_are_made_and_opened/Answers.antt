use Rattle.au_lending.proofs.RecordLemmas.{record_made, record_opened}
use Rattle.au_lending.proofs.laws.records_are_made_and_opened.Goals as goal

pub returns-clause-made : goal.returns-clause-made
returns-clause-made c = λ types clock scope act hold type vs under s m core t tag born fields births unborn.
    record_made types clock scope act hold type vs under s m core t tag born fields births unborn

pub returns-clause-opened : goal.returns-clause-opened
returns-clause-opened c = λ types clock scope act hold type v t under s m core forms cases tag of is.
    record_opened types forms cases clock scope act hold type v t under s m core tag of is
