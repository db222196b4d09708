use Rattle.au_lowering_statements.proofs.BorrowLemmas.{read_referred, write_referred}
use Rattle.au_lowering_statements.proofs.taking.refer.Goals as goal

pub returns-in_ok-new-in-Read : goal.returns-in_ok-new-in-Read
returns-in_ok-new-in-Read c = read_referred _ _ _ c.in-Read.is c.in_ok-new-in-Read.ensures.ok

pub returns-in_ok-new-in-Write : goal.returns-in_ok-new-in-Write
returns-in_ok-new-in-Write c = write_referred _ _ _ c.in-Write.is c.in_ok-new-in-Write.ensures.ok
