use Rattle.std.proofs.Common.{ap, ◌∙◌}
use Rattle.std.specs.Option.{option_copied, option_map}
use Rattle.au_instances.specs.Rows.{row_said, rows_said}
use Rattle.au_instances.specs.Tables.{row_of}
use Rattle.au_instances.proofs.KeyLemmas.{row_missing, row_placed}
use Rattle.au_instances.proofs.instances.Instances.row_of.Goals as goal

pub returns-in_err-index : goal.returns-in_err-index
returns-in_err-index c =
    ap (λ o. option_map row_said (option_copied o)) c.from_residual.ensures
    ∙ row_missing (record { class = c.args.class; constructor = c.args.constructor }) c.self.inside.keys.keys
    (rows_said c.self.inside.rows.items) c.self.invariant.0 c.in_err-index.ensures.index
    ∙ ap (λ rows. row_of rows c.args.class c.args.constructor) c.self.view_is

pub returns : goal.returns
returns c =
    let items = c.self.inside.rows.items in
    row_placed (record { class = c.args.class; constructor = c.args.constructor }) c.self.inside.keys.keys
    items c.in_ok-index.index c.index.result.now c.self.invariant.0 c.in_ok-index.ensures.index
    c.index.ensures
    ∙ ap (λ rows. row_of rows c.args.class c.args.constructor) c.self.view_is
