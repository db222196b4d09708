use Rattle.std.proofs.Common.{ℕ, ◌+◌, Option, Some, ap, sym, ◌∙◌}
use Rattle.std.specs.Option.{option_map}
use Rattle.au_closed_trees.specs.contracts.phase.ClosedTreesPhase.TheImpl.{ghosts as closed}
use Rattle.au_type_texts.specs.Types.{ClosedType}
use Rattle.au_closed_meanings.specs.Views.{found_said}
use Rattle.au_lowered.specs.Slots.{with_field}
use Rattle.au_lowering_expressions.specs.Views.{scope_said}
use Rattle.au_lowering_statements.proofs.BlockLemmas.{begins_same}
use Rattle.au_lowering_statements.proofs.TakenLemmas.{reached_found, taken_found}
use Rattle.au_meaning.specs.Names.{bound_name, with_name}
use Rattle.au_syntax.specs.Views.{renaming}
use Rattle.au_lowering_statements.proofs.entering.bind_field.Goals as goal

pub returns-in-None-clause-said : goal.returns-in-None-clause-said
returns-in-None-clause-said g c =
    let round = g.R.Lookup.round c.args.lookup.now in
    let scope = scope_said c.args.scope.now in
    let taken = c.args.taken.now in
    sym (ap (λ (o : Option (ℕ × ClosedType)). with_field c.args.slot
    (bound_name (renaming closed c.args.bind.now.name)) o scope)
    (sym (taken_found round taken c.args.bind.now.name.name.name _ c.field.ensures)
    ∙ ap (λ o. option_map (reached_found taken.through) (option_map found_said o)) c.in-None.is))

pub returns-in-None-clause-keeps : goal.returns-in-None-clause-keeps
returns-in-None-clause-keeps g c = begins_same c.args.scope.now

pub returns-in_ok-declare_found-in-Some-clause-said : goal.returns-in_ok-declare_found-in-Some-clause-said
returns-in_ok-declare_found-in-Some-clause-said g c =
    let round = g.R.Lookup.round c.args.lookup.now in
    let scope = scope_said c.args.scope.now in
    let taken = c.args.taken.now in
    let found = reached_found taken.through (found_said c.in-Some.found) in
    c.in_ok-declare_found-in-Some.ensures.said
    ∙ ap (λ n. with_name n (c.args.slot + found.0) (Some found.1) scope) c.bound_name.ensures
    ∙ sym (ap (λ (o : Option (ℕ × ClosedType)). with_field c.args.slot
    (bound_name (renaming closed c.args.bind.now.name)) o scope)
    (sym (taken_found round taken c.args.bind.now.name.name.name _ c.field.ensures)
    ∙ ap (λ o. option_map (reached_found taken.through) (option_map found_said o)) c.in-Some.is))
