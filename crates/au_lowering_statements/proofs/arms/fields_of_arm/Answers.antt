use Rattle.std.proofs.Common.{ℕ, Option, length, ap, sym, ◌∙◌}
use Rattle.au_closed_trees.specs.TreeViews.{closed_note}
use Rattle.au_type_texts.specs.Types.{ClosedType}
use Rattle.au_type_texts.specs.Views.{closed_meaning}
use Rattle.au_closed_meanings.specs.Surroundings.{view_in, known as round_known}
use Rattle.au_effects.specs.Parts.{along}
use Rattle.au_lowered.specs.Slots.{known}
use Rattle.au_lowering_statements.proofs.TakenLemmas.{through_length}
use Rattle.au_meaning.specs.Names.{told_type}
use Rattle.au_meaning.specs.Statements.{fields_told}
use Rattle.au_lowering_statements.proofs.arms.fields_of_arm.Goals as goal

pub returns-in-None : goal.returns-in-None
returns-in-None g c =
    let round = g.R.Lookup.round c.args.lookup.now in
    let see = view_in round in
    let note = closed_note c.args.note.now in
    sym (ap (λ (o : Option ℕ). length (known (along o (fields_told see note))))
    (ap (λ (t : ClosedType). round.tag t c.args.name.now) (sym c.told_type-of.ensures)
    ∙ sym c.tag.ensures ∙ c.in-None.is))

pub returns-in-Some : goal.returns-in-Some
returns-in-Some g c =
    let round = g.R.Lookup.round c.args.lookup.now in
    let see = view_in round in
    let note = closed_note c.args.note.now in
    let of = closed_meaning c.args.note.now.of in
    c.count.ensures
    ∙ ap (λ (t : ClosedType). length (round_known (round.fields t c.in-Some.tag))) c.told_type-of.ensures
    ∙ sym (through_length of (round.fields (told_type of) c.in-Some.tag))
    ∙ sym (ap (λ (o : Option ℕ). length (known (along o (fields_told see note))))
    (ap (λ (t : ClosedType). round.tag t c.args.name.now) (sym c.told_type-of.ensures)
    ∙ sym c.tag.ensures ∙ c.in-Some.is))
