use Rattle.std.proofs.Common.{[], arith}
use Rattle.std.proofs.lemmas.Grind.{common_steps}
use Rattle.au_closed_programs.specs.Views.{rows_said}
use Rattle.au_lowering.specs.Rows.{rows_in, rows_told}
use Rattle.au_lowering.proofs.RowLemmas.{no_row, row_put}
use Rattle.au_types.specs.Tables.{with_all}
use Rattle.au_lowering.proofs.telling.tell_rows.Goals as goal

pub loop-one-preserved : goal.loop-one-preserved
loop-one-preserved c =
    row_put c.deref-one-items.result.now c.loop-one.one-index c.one-item.result
    (rows_in c.loop-one.made) (rows_in c.tell_row.new.rows)
    (with_all [] (rows_told (rows_said c.deref-one-items.result.now)))
    (omega (arith, c.loop-one-test.true)) c.one-item.is c.in_ok-tell_row.ensures c.loop-one.invariant

pub returns : goal.returns
returns c = grind (arith, common_steps, no_row)
