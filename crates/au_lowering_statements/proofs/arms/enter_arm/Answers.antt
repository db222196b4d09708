use Rattle.std.proofs.Common.{◌≡◌, ℕ, ◌+◌, List, Option, length, map, ap, sym, ◌∙◌, arith}
use Rattle.au_closed_trees.specs.contracts.phase.ClosedTreesPhase.TheImpl.{ghosts as closed}
use Rattle.au_closed_trees.specs.TreeViews.{closed_note}
use Rattle.au_type_texts.specs.Types.{ClosedType}
use Rattle.au_type_texts.specs.Views.{closed_meaning}
use Rattle.au_closed_meanings.specs.Surroundings.{fields_in, view_in, known as round_known}
use Rattle.au_effects.specs.Parts.{along}
use Rattle.au_lowered.specs.Slots.{fields_of_case, known, with_fields}
use Rattle.au_lowering_expressions.specs.Views.{scope_said}
use Rattle.au_lowering_statements.specs.Views.{access_behind}
use Rattle.au_lowering_statements.proofs.BlockLemmas.{begins_same, no_fields}
use Rattle.au_lowering_statements.proofs.TakenLemmas.{reached_field, through_length, through_same}
use Rattle.au_meaning.specs.Names.{told_type}
use Rattle.au_meaning.specs.Statements.{fields_told}
use Rattle.au_meaning.specs.Views.{Field}
use Rattle.au_syntax.specs.declared.types.Access.{Access}
use Rattle.au_syntax.specs.Views.{bound}
use Rattle.au_lowering_statements.proofs.arms.enter_arm.Goals as goal

pub returns-in-None-clause-next : goal.returns-in-None-clause-next
returns-in-None-clause-next g c =
    let round = g.R.Lookup.round c.args.lookup.now in
    let see = view_in round in
    let note = closed_note c.args.note.now in
    let none : length (fields_of_case see note c.args.name.now) ≡ 0 =
    ap (λ (o : Option ℕ). length (known (along o (fields_told see note))))
    (ap (λ (t : ClosedType). round.tag t c.args.name.now) (sym c.told_type-of.ensures)
    ∙ sym c.tag.ensures ∙ c.in-None.is) in
    omega (arith, none)

pub returns-in-None-clause-said : goal.returns-in-None-clause-said
returns-in-None-clause-said g c =
    let round = g.R.Lookup.round c.args.lookup.now in
    let see = view_in round in
    let note = closed_note c.args.note.now in
    let scope = scope_said c.args.scope.now in
    let binds = map (bound closed) c.args.binds.now.items in
    sym (ap (λ (o : Option ℕ). with_fields (known (along o (fields_told see note))) c.args.slot binds scope)
    (ap (λ (t : ClosedType). round.tag t c.args.name.now) (sym c.told_type-of.ensures)
    ∙ sym c.tag.ensures ∙ c.in-None.is)
    ∙ no_fields c.args.slot binds scope)

pub returns-in-None-clause-keeps : goal.returns-in-None-clause-keeps
returns-in-None-clause-keeps g c = begins_same c.args.scope.now

pub returns-in_ok-next-in-Some-clause-next : goal.returns-in_ok-next-in-Some-clause-next
returns-in_ok-next-in-Some-clause-next g c =
    let round = g.R.Lookup.round c.args.lookup.now in
    let note = closed_note c.args.note.now in
    let of = closed_meaning c.args.note.now.of in
    let tag = c.in-Some.tag in
    c.in_ok-next-in-Some.ensures
    ∙ ap (λ n. c.args.slot + n)
    (c.count.ensures
    ∙ ap (λ (t : ClosedType). length (round_known (round.fields t tag))) c.told_type-of.ensures
    ∙ sym (through_length of (round.fields (told_type of) tag))
    ∙ sym (ap (λ (o : Option ℕ). length (known (along o (fields_told (view_in round) note))))
    (ap (λ (t : ClosedType). round.tag t c.args.name.now) (sym c.told_type-of.ensures)
    ∙ sym c.tag.ensures ∙ c.in-Some.is)))

pub returns-in_ok-next-in-Some-clause-said : goal.returns-in_ok-next-in-Some-clause-said
returns-in_ok-next-in-Some-clause-said g c =
    let round = g.R.Lookup.round c.args.lookup.now in
    let note = closed_note c.args.note.now in
    let of = closed_meaning c.args.note.now.of in
    let tag = c.in-Some.tag in
    let scope = scope_said c.args.scope.now in
    let binds = map (bound closed) c.args.binds.now.items in
    c.in_ok-bind_fields-in-Some.ensures.said
    ∙ ap (λ (a : Option Access). with_fields (map (reached_field a)
    (fields_in round (closed_meaning c.told_type-of.result.now) tag)) c.args.slot binds scope)
    c.access_behind.ensures
    ∙ ap (λ (t : ClosedType). with_fields (map (reached_field (access_behind of)) (fields_in round t tag))
    c.args.slot binds scope) c.told_type-of.ensures
    ∙ ap (λ (fields : List Field). with_fields fields c.args.slot binds scope)
    (sym (through_same of (round.fields (told_type of) tag)))
    ∙ sym (ap (λ (o : Option ℕ). with_fields (known (along o (fields_told (view_in round) note)))
    c.args.slot binds scope)
    (ap (λ (t : ClosedType). round.tag t c.args.name.now) (sym c.told_type-of.ensures)
    ∙ sym c.tag.ensures ∙ c.in-Some.is))
