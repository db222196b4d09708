use Rattle.std.proofs.Common.{◌≡◌, ◌<◌, length, get_or, Some, ap, ◌∙◌, arith}
use Rattle.std.specs.Prelude.{slice_get}
use Rattle.std.proofs.lemmas.Result.{on_ok_weaker}
use Rattle.std.proofs.lemmas.Option.{slice_get-get_or}
use Rattle.au_modules.specs.Seen.{part_tree}
use Rattle.au_names.specs.Exporting.{imports_seen}
use Rattle.au_types.specs.Tables.{with_all}
use Rattle.au_names.specs.Importing.{imported}
use Rattle.au_names.specs.Sources.{modules_of}
use Rattle.au_names.proofs.ExportLemmas.{as_many, nothing}
use Rattle.au_names.proofs.SeenLemmas.{part_imports, seen_put, pervasive_put}
use Rattle.au_names.proofs.seeing.put_seen.Goals as goal

pub offered_names-pervasive-requires : goal.offered_names-pervasive-requires
offered_names-pervasive-requires c =
    omega (
      arith,
      c.requires.within,
      as_many c.args.source.now.exports.now.interfaces.items (modules_of c.args.source.now)
          c.requires.made.interfaces,
    )

pub returns : goal.returns
returns c = λ m here.
    let program = modules_of c.args.source.now in
    let some : 0 < length program = omega (arith, c.requires.within) in
    let first = get_or program 0 nothing in
    let there : slice_get program 0 ≡ Some first = slice_get-get_or program 0 nothing some in
    let imports =
    ap imports_seen (c.part-file.ensures ∙ ap (part_tree c.args.part) here) ∙ part_imports c.args.part m in
    on_ok_weaker c.put_table.result
    (λ put. seen_put c.args.space program c.args.place m c.args.part c.args.table.now c.put_own.new.table
    c.put_imported.new.table c.put_table.new.table c.requires.empty
    (c.in_ok-put_own.ensures m here)
    (c.in_ok-put_imported.ensures
    ∙ ap (λ imports. with_all c.put_own.new.table (imported c.args.space program c.args.place imports))
    imports)
    (pervasive_put c.args.space program first c.put_imported.new.table c.put_table.new.table
    c.offered_names-pervasive.result.now there
    (c.offered_names-pervasive.ensures program first c.requires.made there) put))
    c.put_table.ensures
