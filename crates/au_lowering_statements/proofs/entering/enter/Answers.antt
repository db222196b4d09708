use Rattle.std.proofs.Common.{Some, map, ap, sym, ◌∙◌}
use Rattle.au_closed_trees.specs.contracts.phase.ClosedTreesPhase.TheImpl.{ghosts as closed}
use Rattle.au_closed_trees.specs.ClosedNotes.{ClosedNote}
use Rattle.au_closed_meanings.specs.Surroundings.{fields_in, view_in}
use Rattle.au_lowered.specs.Slots.{after, with_fields}
use Rattle.au_lowering_expressions.specs.Views.{scope_said}
use Rattle.au_lowering_statements.proofs.BlockLemmas.{known_same}
use Rattle.au_meaning.specs.Expressions.{note_of}
use Rattle.au_meaning.specs.Names.{with_name}
use Rattle.au_syntax.specs.Views.{bound, expression, statement}
use Rattle.au_syntax.proofs.StatementLemmas.{destructure_says, let_says}
use Rattle.au_lowering_statements.proofs.entering.enter.Goals as goal

pub returns-in_ok-declare_noted-in-Let-clause-said : goal.returns-in_ok-declare_noted-in-Let-clause-said
returns-in_ok-declare_noted-in-Let-clause-said g c =
    let see = view_in (g.R.Lookup.round c.args.lookup.now) in
    let scope = scope_said c.args.scope.now in
    let p = c.in-Let in
    c.in_ok-declare_noted-in-Let.ensures.said
    ∙ ap (λ (n : ClosedNote). with_name p.name.name c.args.slot (Some n.of) scope) c.note_of.ensures
    ∙ ap (λ e. with_name p.name.name c.args.slot (Some (note_of (expression closed e)).of) scope)
    c.deref.ensures
    ∙ sym (ap (λ s. after see c.args.slot s scope) (ap (statement closed) p.is
    ∙ let_says closed p.field-0 p.field-1 p.name p.field-3 p.value))

pub returns-in_ok-bind_record-in-Destructure-clause-said :
    goal.returns-in_ok-bind_record-in-Destructure-clause-said
returns-in_ok-bind_record-in-Destructure-clause-said g c =
    let round = g.R.Lookup.round c.args.lookup.now in
    let scope = scope_said c.args.scope.now in
    let p = c.in-Destructure in
    let binds = map (bound closed) p.binds.items in
    let note = note_of (expression closed p.value.value) in
    c.in_ok-bind_record-in-Destructure.ensures.said
    ∙ ap (λ (n : ClosedNote). with_fields (fields_in round n.of 0) c.args.slot binds scope)
    c.note_of-in-Destructure.ensures
    ∙ ap (λ e. with_fields (fields_in round (note_of (expression closed e)).of 0) c.args.slot binds scope)
    c.deref-in-Destructure.ensures
    ∙ ap (λ fields. with_fields fields c.args.slot binds scope) (sym (known_same (round.fields note.of 0)))
    ∙ sym (ap (λ s. after (view_in round) c.args.slot s scope) (ap (statement closed) p.is
    ∙ destructure_says closed p.field-0 p.binds p.value))
