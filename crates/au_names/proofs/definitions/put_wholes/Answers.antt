use Rattle.std.proofs.Common.{ap, ◌∙◌}
use Rattle.au_types.specs.Tables.{with_all}
use Rattle.au_names.specs.Defining.{wholes_from}
use Rattle.au_names.specs.Walks.{written_all}
use Rattle.au_names.proofs.DefiningLemmas.{wholes_end, wholes_step}
use Rattle.au_names.proofs.definitions.put_wholes.Goals as goal

pub loop-index-preserved : goal.loop-index-preserved
loop-index-preserved c =
    let items = c.deref-decl-items.result.now in
    wholes_step items c.loop-index.index c.decl-item.result c.loop-index.table c.put_whole.new.table
    (with_all c.args.table.now (wholes_from 0 (written_all items)))
    c.loop-index-test.true c.decl-item.is c.loop-index.invariant c.in_ok-put_whole.ensures

pub returns : goal.returns
returns c =
    let items = c.deref-decl-items.result.now in
    wholes_end items c.loop-index.index c.loop-index.table
    (with_all c.args.table.now (wholes_from 0 (written_all items)))
    c.loop-index-test.false c.loop-index.invariant
    ∙ ap (λ xs. with_all c.args.table.now (wholes_from 0 (written_all xs))) c.deref-decl-items.ensures.value
