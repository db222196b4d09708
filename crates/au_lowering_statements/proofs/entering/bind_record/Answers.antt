use Rattle.std.proofs.Common.{map, ap, ◌∙◌}
use Rattle.au_closed_trees.specs.contracts.phase.ClosedTreesPhase.TheImpl.{ghosts as closed}
use Rattle.au_type_texts.specs.Views.{closed_meaning}
use Rattle.au_closed_meanings.specs.Surroundings.{fields_in}
use Rattle.au_lowered.specs.Slots.{with_fields}
use Rattle.au_lowering_expressions.specs.Views.{scope_said}
use Rattle.au_lowering_statements.proofs.TakenLemmas.{reached_same}
use Rattle.au_syntax.specs.Views.{bound}
use Rattle.au_lowering_statements.proofs.entering.bind_record.Goals as goal

pub returns-clause-said : goal.returns-clause-said
returns-clause-said g c =
    let fields = fields_in (g.R.Lookup.round c.args.lookup.now) (closed_meaning c.args.of.now) 0 in
    c.in_ok-bind_fields.ensures.said
    ∙ ap (λ all. with_fields all c.args.slot (map (bound closed) c.args.binds.now.items)
    (scope_said c.args.scope.now)) (reached_same fields)
