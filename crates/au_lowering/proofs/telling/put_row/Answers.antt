use Rattle.std.proofs.Common.{true, false, refl, sym, ap, ◌∙◌}
use Rattle.au_lowering.specs.Rows.{rows_in}
use Rattle.au_lowering.proofs.RowLemmas.{told_there}
use Rattle.au_graphs.specs.Finding.{numbers}
use Rattle.au_types.specs.Tables.{pairs_by}
use Rattle.au_types.proofs.TableLemmas.{inserted-new, with_pair-old}
use Rattle.au_lowering.proofs.telling.put_row.Goals as goal

pub returns-then-contains_key : goal.returns-then-contains_key
returns-then-contains_key c =
    sym (with_pair-old (rows_in c.args.rows.now) c.args.key.items c.args.low
    (told_there c.args.rows.now.entries.entries c.as_slice.result.now
    c.args.key.items true c.contains_key.result
    c.as_slice.ensures.value c.contains_key.ensures c.if-contains_key.true))

pub returns : goal.returns
returns c =
    ap (λ es. pairs_by es numbers) c.in_ok-insert.ensures.entries
    ∙ inserted-new numbers c.args.rows.now.entries.entries c.args.key c.args.low c.args.key.items refl
    (told_there c.args.rows.now.entries.entries c.as_slice.result.now
    c.args.key.items false c.contains_key.result
    c.as_slice.ensures.value c.contains_key.ensures c.if-contains_key.false)
