use Rattle.std.proofs.Common.{map, refl, ap, ◌∙◌}
use Rattle.au_syntax.specs.contracts.parsed.ParsedPhase.TheImpl.{ghosts as parsed}
use Rattle.au_syntax.specs.Plain.{plain_importing}
use Rattle.au_syntax.specs.Views.{importing}
use Rattle.au_types.specs.Tables.{with_all}
use Rattle.au_names.specs.Importing.{brings, imported}
use Rattle.au_names.specs.Sources.{modules_of}
use Rattle.au_names.proofs.PutLemmas.{put_step, put_end, read_at}
use Rattle.au_names.proofs.imports.put_each.Goals as goal

pub loop-import-init : goal.loop-import-init
loop-import-init c = record {
  left = refl;
  done = c.requires.done;
}

pub loop-import-preserved : goal.loop-import-preserved
loop-import-preserved c = record {
  left =
      let program = modules_of c.args.source.now in
      let items = c.deref-import-items.result.now in
      put_step (λ xs. imported c.args.space program c.args.place
      (map (plain_importing parsed.name_bytes) (map (importing parsed) xs)))
      (λ x. brings c.args.space program c.args.place (plain_importing parsed.name_bytes (importing parsed x)))
      (λ x xs. refl) c.loop-import.table c.put_import.new.table
      (with_all c.args.table.now (imported c.args.space program c.args.place
      (map (plain_importing parsed.name_bytes) (map (importing parsed) items))))
      items c.loop-import.import-index c.import-item.result
      (read_at items c.loop-import.import-index c.import-item.result c.loop-import-test.true
      c.import-item.is) c.loop-import.invariant.left c.in_ok-put_import.ensures.import;
  done = c.in_ok-put_import.ensures.done;
}

pub returns : goal.returns
returns c =
    let program = modules_of c.args.source.now in
    let items = c.deref-import-items.result.now in
    put_end (λ xs. imported c.args.space program c.args.place
    (map (plain_importing parsed.name_bytes) (map (importing parsed) xs))) refl c.loop-import.table
    (with_all c.args.table.now (imported c.args.space program c.args.place
    (map (plain_importing parsed.name_bytes) (map (importing parsed) items))))
    items c.loop-import.import-index c.loop-import-test.false c.loop-import.invariant.left
    ∙ ap (λ xs. with_all c.args.table.now (imported c.args.space program c.args.place
    (map (plain_importing parsed.name_bytes) (map (importing parsed) xs))))
    c.deref-import-items.ensures.value
