use Rattle.au_lowering_statements.proofs.BorrowLemmas.{read_borrowed, write_borrowed}
use Rattle.au_lowering_statements.proofs.block_pieces.borrowed.Goals as goal

pub returns-in_ok-new-in-Read : goal.returns-in_ok-new-in-Read
returns-in_ok-new-in-Read c = read_borrowed _ _ _ _ c.in-Read.is c.in_ok-new-in-Read.ensures.ok
    c.in_ok-copy.ensures

pub returns-in_ok-new-in-Write : goal.returns-in_ok-new-in-Write
returns-in_ok-new-in-Write c = write_borrowed _ _ _ _ c.in-Write.is
    c.in_ok-new-in-Write.ensures.ok c.in_ok-copy.ensures
