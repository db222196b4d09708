use Rattle.std.proofs.Common.{ap, ◌∙◌}
use Rattle.au_types.specs.Tables.{with_all}
use Rattle.au_types.proofs.TableLemmas.{with_all-firsts}
use Rattle.au_modules.specs.Seen.{tree_seen}
use Rattle.au_modules.specs.Slots as slots
use Rattle.au_names.specs.Exporting.{imports_seen}
use Rattle.au_names.specs.Importing.{imported}
use Rattle.au_imports.proofs.brought.table_brought.Goals as goal

pub returns : goal.returns
returns c =
    let those = imported c.args.space (slots.modules c.args.modules.now) c.args.place
    (imports_seen (tree_seen c.args.file)) in
    c.in_ok-put_imported.ensures ∙ ap (λ t. with_all t those) c.new-table.ensures ∙ with_all-firsts those
