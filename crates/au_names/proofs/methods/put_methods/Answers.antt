use Rattle.std.proofs.Common.{ap, ◌∙◌}
use Rattle.au_types.specs.Tables.{with_all}
use Rattle.au_names.specs.Methods.{methods_from, written_methods}
use Rattle.au_names.proofs.MethodLemmas.{methods_end, methods_step}
use Rattle.au_names.proofs.methods.put_methods.Goals as goal

pub loop-index-preserved : goal.loop-index-preserved
loop-index-preserved c =
    let items = c.deref-one-items.result.now in
    methods_step items c.loop-index.index c.one-item.result c.as_bytes.result.now c.loop-index.table
    c.put.new.self
    (with_all c.args.table.now (methods_from 0 (written_methods items)))
    c.loop-index-test.true c.one-item.is c.as_bytes.ensures.bytes c.loop-index.invariant
    c.in_ok-put.ensures.pairs

pub returns : goal.returns
returns c =
    let items = c.deref-one-items.result.now in
    methods_end items c.loop-index.index c.loop-index.table
    (with_all c.args.table.now (methods_from 0 (written_methods items)))
    c.loop-index-test.false c.loop-index.invariant
    ∙ ap (λ xs. with_all c.args.table.now (methods_from 0 (written_methods xs)))
    c.deref-one-items.ensures.value
