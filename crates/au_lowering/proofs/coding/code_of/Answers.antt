use Rattle.au_closed_programs.specs.Views.{program_said}
use Rattle.au_lowering.specs.Rows.{rows_in}
use Rattle.au_lowering.specs.DraftViews.{all_said}
use Rattle.au_lowering.proofs.LowerLemmas.{code_made}
use Rattle.au_lowering.proofs.coding.code_of.Goals as goal

pub returns : goal.returns
returns c =
    code_made (program_said c.args.program.now)
    (all_said c.args.all.items) c.in_ok-tables.tables.texts c.in_ok-tables.tables.types
    (rows_in c.in_ok-rows.rows) c.takes_root-root.result c.code_with.result
    c.requires c.in_ok-tables.ensures.texts c.in_ok-tables.ensures.types
    c.in_ok-rows.ensures c.takes_root-root.ensures
    c.code_with.ensures.texts c.code_with.ensures.types c.code_with.ensures.functions c.code_with.ensures.root
