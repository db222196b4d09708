use Rattle.std.proofs.Common.{◌∙◌}
use Rattle.au_modules.specs.Slots as slots
use Rattle.au_caps_types.proofs.RowLemmas.{more_rows}
use Rattle.au_caps_types.proofs.namings.namings_of.Goals as goal

pub loop-index-preserved : goal.loop-index-preserved
loop-index-preserved c =
    c.in_ok-push.ensures.items
    ∙ more_rows (slots.modules c.args.program.now) c.heads_ref-heads.result.now c.loop-index.index
    (c.at.result.0, c.at.result.1.now) c.heads_ref-heads.ensures c.at.ensures.row c.loop-index.list.items
    c.in_ok-names.names c.loop-index.invariant c.in_ok-names.ensures
