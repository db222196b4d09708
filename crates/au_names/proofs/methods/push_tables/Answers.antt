use Rattle.std.proofs.Common.{◌++◌, map, ap, ◌∙◌}
use Rattle.au_names.specs.Methods.{methods_of}
use Rattle.au_names.specs.Walks.{written_all}
use Rattle.au_names.proofs.MethodLemmas.{tables_end, tables_step}
use Rattle.au_names.proofs.methods.push_tables.Goals as goal

pub loop-decl-preserved : goal.loop-decl-preserved
loop-decl-preserved c =
    let items = c.deref-decl-items.result.now in
    tables_step items c.loop-decl.decl-index c.decl-item.result c.loop-decl.all.items c.push.new.self.items
    c.in_ok-table.table
    (c.args.all.now.items ++ map methods_of (written_all items))
    c.loop-decl-test.true c.decl-item.is c.in_ok-table.ensures c.loop-decl.invariant
    c.in_ok-push.ensures.items

pub returns : goal.returns
returns c =
    let items = c.deref-decl-items.result.now in
    tables_end items c.loop-decl.decl-index c.loop-decl.all.items
    (c.args.all.now.items ++ map methods_of (written_all items))
    c.loop-decl-test.false c.loop-decl.invariant
    ∙ ap (λ xs. c.args.all.now.items ++ map methods_of (written_all xs)) c.deref-decl-items.ensures.value
