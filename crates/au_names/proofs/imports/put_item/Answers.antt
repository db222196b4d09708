use Rattle.std.proofs.Common.{arith}
use Rattle.std.proofs.lemmas.Result.{on_ok_weaker}
use Rattle.au_syntax.specs.contracts.parsed.ParsedPhase.TheImpl.{ghosts as parsed}
use Rattle.au_syntax.specs.Plain.{plain_renaming}
use Rattle.au_syntax.specs.Views.{renaming}
use Rattle.au_types.specs.Tables.{find}
use Rattle.au_names.specs.Exporting.{found_as}
use Rattle.au_names.specs.Importing.{given_name}
use Rattle.au_names.specs.Sources.{modules_of}
use Rattle.au_names.proofs.AlongLemmas.{along_stays}
use Rattle.au_names.proofs.ExportLemmas.{as_many}
use Rattle.au_names.proofs.ImportLemmas.{found_put, brought_value, brought_type, brought_callable}
use Rattle.au_names.proofs.imports.put_item.Goals as goal

pub offered_names-names-requires : goal.offered_names-names-requires
offered_names-names-requires c = omega (
  arith,
  c.requires.within,
  as_many c.args.source.now.exports.now.interfaces.items (modules_of c.args.source.now)
      c.requires.made.interfaces,
)

pub returns-in-Values-clause-item : goal.returns-in-Values-clause-item
returns-in-Values-clause-item c = λ m here.
    let item = plain_renaming parsed.name_bytes (renaming parsed c.args.item.now) in
    brought_value c.args.space c.args.table.now c.put_found.new.table c.args.other
    m item c.offered_names-names.result.now c.in-Values.is
    (c.offered_names-names.ensures (modules_of c.args.source.now) m c.requires.made here)
    (found_put c.args.table.now c.put_found.new.table c.args.other c.offered_names-names.result.now
    c.as_bytes-name.result.now item.name.name c.given_name-local.result.now (given_name item)
    c.as_bytes-name.ensures.bytes c.given_name-local.ensures c.in_ok-put_found.ensures)

pub returns-in-Callables-clause-item : goal.returns-in-Callables-clause-item
returns-in-Callables-clause-item c = λ m here.
    let item = plain_renaming parsed.name_bytes (renaming parsed c.args.item.now) in
    on_ok_weaker c.put_along.result
    (λ put. brought_callable c.args.space c.args.table.now c.put_found.new.table c.put_along.new.table
    c.args.other m item c.offered_names-names.result.now c.in-Callables.is
    (c.offered_names-names.ensures (modules_of c.args.source.now) m c.requires.made here)
    (found_put c.args.table.now c.put_found.new.table c.args.other c.offered_names-names.result.now
    c.as_bytes-name.result.now item.name.name c.given_name-local.result.now (given_name item)
    c.as_bytes-name.ensures.bytes c.given_name-local.ensures c.in_ok-put_found.ensures)
    (rw c.as_bytes-name.ensures.bytes at put))
    (c.put_along.ensures.along m here)

pub returns-in-Types-clause-item : goal.returns-in-Types-clause-item
returns-in-Types-clause-item c = λ m here.
    let item = plain_renaming parsed.name_bytes (renaming parsed c.args.item.now) in
    brought_type c.args.space c.args.table.now c.put_found.new.table c.args.other
    m item c.offered_names-names.result.now c.in-Types.is
    (c.offered_names-names.ensures (modules_of c.args.source.now) m c.requires.made here)
    (found_put c.args.table.now c.put_found.new.table c.args.other c.offered_names-names.result.now
    c.as_bytes-name.result.now item.name.name c.given_name-local.result.now (given_name item)
    c.as_bytes-name.ensures.bytes c.given_name-local.ensures c.in_ok-put_found.ensures)

-- what has come along stays as the item itself is put
pub returns-in-Values-clause-done : goal.returns-in-Values-clause-done
returns-in-Values-clause-done c =
    along_stays (modules_of c.args.source.now) c.args.done.now c.args.table.now c.put_found.new.table
    (found_as c.args.other c.as_bytes-name.result.now c.given_name-local.result.now
    (find c.as_bytes-name.result.now c.offered_names-names.result.now))
    c.requires.done c.in_ok-put_found.ensures

pub returns-in-Types-clause-done : goal.returns-in-Types-clause-done
returns-in-Types-clause-done c =
    along_stays (modules_of c.args.source.now) c.args.done.now c.args.table.now c.put_found.new.table
    (found_as c.args.other c.as_bytes-name.result.now c.given_name-local.result.now
    (find c.as_bytes-name.result.now c.offered_names-names.result.now))
    c.requires.done c.in_ok-put_found.ensures

pub put_along-requires-clause-done : goal.put_along-requires-clause-done
put_along-requires-clause-done c =
    along_stays (modules_of c.args.source.now) c.args.done.now c.args.table.now c.put_found.new.table
    (found_as c.args.other c.as_bytes-name.result.now c.given_name-local.result.now
    (find c.as_bytes-name.result.now c.offered_names-names.result.now))
    c.requires.done c.in_ok-put_found.ensures
