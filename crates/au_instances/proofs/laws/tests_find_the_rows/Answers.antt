use Rattle.au_instances.proofs.ClosedLemmas.{closed_row_gave, closed_row_there}
use Rattle.au_instances.proofs.RowLemmas.{row_for_gave, row_for_there}
use Rattle.au_instances.proofs.laws.tests_find_the_rows.Goals as goal

pub returns-clause-whole : goal.returns-clause-whole
returns-clause-whole c = λ rows heads scope class t row table.
    (row_for_gave heads scope rows class t row table, row_for_there heads scope rows class t row table)

pub returns-clause-closed : goal.returns-clause-closed
returns-clause-closed c = λ rows heads class t row table.
    (closed_row_gave rows heads table class t row, closed_row_there rows heads table class t row)
