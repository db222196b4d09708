use Rattle.std.proofs.Common.{Some, arith, refl, sym, ap, ◌∙◌}
use Rattle.std.proofs.lemmas.Result.{on_ok_weaker}
use Rattle.au_types.specs.Tables.{with_all}
use Rattle.au_modules.specs.Seen.{interface_tree}
use Rattle.au_names.specs.Sources.{modules_of}
use Rattle.au_names.proofs.AlongLemmas.{along_file}
use Rattle.au_names.proofs.ExportLemmas.{as_many}
use Rattle.au_names.proofs.ImportLemmas.{along_none, along_some}
use Rattle.au_names.proofs.imports.put_along.Goals as goal

pub offered_names-types-requires : goal.offered_names-types-requires
offered_names-types-requires c = omega (
  arith,
  c.requires.within,
  as_many c.args.source.now.exports.now.interfaces.items (modules_of c.args.source.now)
      c.requires.made.interfaces,
)

pub returns-in-None-clause-along : goal.returns-in-None-clause-along
returns-in-None-clause-along c = λ m here.
    along_none c.args.table.now c.args.other c.args.name.now m c.offered_names-types.result.now
    (c.offered_names-types.ensures (modules_of c.args.source.now) m c.requires.made here)
    c.in-None.ensures

pub returns-in-Some-clause-along : goal.returns-in-Some-clause-along
returns-in-Some-clause-along c = λ m here.
    on_ok_weaker c.put_once.result
    (λ put. along_some c.args.table.now c.put_once.new.table c.args.other c.args.name.now
    m c.offered_names-types.result.now c.in-Some.number.now (interface_tree (Some m))
    (c.offered_names-types.ensures (modules_of c.args.source.now) m c.requires.made here)
    c.in-Some.ensures refl
    (put
    ∙ ap (with_all c.args.table.now)
    (sym (along_file (record { «module» = c.args.other; decl = c.in-Some.number.now }) m
    (interface_tree (Some m)) refl))))
    (c.put_once.ensures.members m here)
