use Rattle.std.proofs.Common.{◌++◌, ◌∷◌, [], ap, ◌∙◌}
use Rattle.au_instances.specs.Rows.{row_said}
use Rattle.au_classes.specs.ClassViews.{known_rows}
use Rattle.au_classes.proofs.KnownLemmas.{known_more}
use Rattle.au_classes.proofs.declaring.admit_in.Goals as goal

pub returns-in_ok-add-in-None-clause-known : goal.returns-in_ok-add-in-None-clause-known
returns-in_ok-add-in-None-clause-known c = λ none.
    let places = c.args.known.now.places.items in
    let rows = c.args.known.now.rows in
    let at = c.args.text.now.at in
    let row = row_said c.args.row in
    ap (λ ps. known_rows ps c.add.new.self.rows) c.in_ok-add-in-None.ensures.places
    ∙ ap (λ rs. known_rows (places ++ at ∷ []) rs) c.in_ok-add-in-None.ensures.rows
    ∙ known_more places rows at row c.args.known.now.many
