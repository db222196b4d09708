use Rattle.std.proofs.Common.{ap, length, nat_eq, sym, ◌∙◌}
use Rattle.indexmap.specs.IndexMap.{get}
use Rattle.au_type_texts.specs.Views.{closed_meaning}
use Rattle.au_lowering.specs.Views.{rows_held}
use Rattle.au_lowering.proofs.PlaceLemmas.{at_place, no_place}
use Rattle.au_lowering.proofs.placing.find_row.Goals as goal

pub returns-in-None : goal.returns-in-None
returns-in-None c =
    let rows = c.args.rows.now in
    no_place rows.rows.items (get nat_eq rows.places) (closed_meaning c.args.of.now) rows.placed
    (ap (get nat_eq rows.places) (sym c.mixed_type.ensures) ∙ sym c.in-None.ensures.value)

pub returns-in-Some : goal.returns-in-Some
returns-in-Some c =
    let rows = c.args.rows.now in
    c.find_from.ensures
    ∙ at_place (rows_held rows.rows.items) (get nat_eq rows.places) (length rows.rows.items)
    c.in-Some.place.now (closed_meaning c.args.of.now) rows.placed
    (ap (get nat_eq rows.places) (sym c.mixed_type.ensures) ∙ sym c.in-Some.ensures.value)
