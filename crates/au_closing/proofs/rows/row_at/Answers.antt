use Rattle.std.proofs.Common.{None, ap, refl, sym, ◌∙◌}
use Rattle.std.specs.Option.{option_copied, option_map}
use Rattle.au_type_texts.specs.Views.{closed_meaning}
use Rattle.au_instances.specs.Rows.{row_said}
use Rattle.au_instances.specs.Tables.{row_with}
use Rattle.au_closing.proofs.RowLemmas.{no_row, one_row}
use Rattle.au_closing.proofs.rows.row_at.Goals as goal

pub returns-in_err-_given : goal.returns-in_err-_given
returns-in_err-_given c =
    ap (λ o. option_map row_said (option_copied o)) c.from_residual.ensures
    ∙ sym (no_row c.args.instances.now c.args.heads.now c.is_table.ensures c.args.class (closed_meaning c.args.of.now)
    None c.in_err-_given.ensures.only refl)

pub returns : goal.returns
returns c =
    let found = c.in_ok-_given.ensures.found in
    c.row_of.ensures
    ∙ ap (row_with c.args.instances.now c.args.class) c.in_ok-constructor_of_closed.ensures
    ∙ one_row c.args.instances.now c.args.heads.now c.is_table.ensures c.args.class (closed_meaning c.args.of.now)
    found.0 found.1
