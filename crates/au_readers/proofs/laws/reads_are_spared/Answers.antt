use Rattle.au_readers.proofs.SparingLemmas.{names_spare_reads, writers_spare_reads}
use Rattle.au_readers.proofs.laws.reads_are_spared.Goals as goal

pub returns-clause-writers : goal.returns-clause-writers
returns-clause-writers c = λ types clock scope act hold type under s m core.
    writers_spare_reads types clock scope act hold type under s m core

pub returns-clause-names : goal.returns-clause-names
returns-clause-names c = λ types clock scope act hold type under s m core.
    names_spare_reads types clock scope act hold type under s m core
