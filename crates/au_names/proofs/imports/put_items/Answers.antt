use Rattle.std.proofs.Common.{map, refl, ap, ◌∙◌}
use Rattle.std.specs.List.{flat_map}
use Rattle.au_syntax.specs.contracts.parsed.ParsedPhase.TheImpl.{ghosts as parsed}
use Rattle.au_syntax.specs.Plain.{plain_renaming}
use Rattle.au_syntax.specs.Views.{renaming}
use Rattle.au_types.specs.Tables.{with_all}
use Rattle.au_names.specs.Importing.{brought}
use Rattle.au_names.proofs.PutLemmas.{put_step, put_end, read_at}
use Rattle.au_names.proofs.imports.put_items.Goals as goal

pub loop-item-preserved : goal.loop-item-preserved
loop-item-preserved c = record {
  left = λ m here.
      let items = c.deref-item-items.result.now in
      put_step (λ xs. flat_map (brought c.args.space c.args.other m)
      (map (plain_renaming parsed.name_bytes) (map (renaming parsed) xs)))
      (λ x. brought c.args.space c.args.other m (plain_renaming parsed.name_bytes (renaming parsed x)))
      (λ x xs. refl) c.loop-item.table c.put_item.new.table
      (with_all c.args.table.now (flat_map (brought c.args.space c.args.other m)
      (map (plain_renaming parsed.name_bytes) (map (renaming parsed) items))))
      items c.loop-item.item-index c.item-item.result
      (read_at items c.loop-item.item-index c.item-item.result c.loop-item-test.true c.item-item.is)
      (c.loop-item.invariant.left m here) (c.in_ok-put_item.ensures.item m here);
  done = c.in_ok-put_item.ensures.done;
}

pub returns-clause-items : goal.returns-clause-items
returns-clause-items c = λ m here.
    let items = c.deref-item-items.result.now in
    put_end (λ xs. flat_map (brought c.args.space c.args.other m)
    (map (plain_renaming parsed.name_bytes) (map (renaming parsed) xs))) refl c.loop-item.table
    (with_all c.args.table.now (flat_map (brought c.args.space c.args.other m)
    (map (plain_renaming parsed.name_bytes) (map (renaming parsed) items))))
    items c.loop-item.item-index c.loop-item-test.false (c.loop-item.invariant.left m here)
    ∙ ap (λ xs. with_all c.args.table.now (flat_map (brought c.args.space c.args.other m)
    (map (plain_renaming parsed.name_bytes) (map (renaming parsed) xs)))) c.deref-item-items.ensures.value
