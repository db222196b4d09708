use Rattle.std.proofs.Common.{map, refl, ap, sym, ◌∙◌}
use Rattle.std.proofs.lemmas.List.{at_drop_all}
use Rattle.au_closed_trees.specs.contracts.phase.ClosedTreesPhase.TheImpl.{ghosts as closed}
use Rattle.au_lowered.specs.Slots.{with_fields}
use Rattle.au_lowering_expressions.specs.Views.{scope_said}
use Rattle.au_lowering_statements.specs.Views.{fields_taken}
use Rattle.au_lowering_statements.proofs.BlockLemmas.{begins_more, begins_same, fields_step}
use Rattle.au_syntax.specs.Views.{bound}
use Rattle.au_lowering_statements.proofs.entering.bind_fields.Goals as goal

pub loop-one-init : goal.loop-one-init
loop-one-init g c = (begins_same c.args.scope.now, refl)

pub loop-one-preserved : goal.loop-one-preserved
loop-one-preserved g c = (
  begins_more c.args.scope.now c.loop-one.scope c.bind_field.new.scope
      c.loop-one.invariant.0 c.in_ok-bind_field.ensures.keeps,
  fields_step (fields_taken (g.R.Lookup.round c.args.lookup.now) c.args.taken.now)
      c.args.slot c.deref-one-items.result.now c.loop-one.one-index c.one-item.result _ _ _
      c.loop-one-test.true c.one-item.is c.in_ok-bind_field.ensures.said c.loop-one.invariant.1,
)

pub returns-clause-said : goal.returns-clause-said
returns-clause-said g c =
    let fields = fields_taken (g.R.Lookup.round c.args.lookup.now) c.args.taken.now in
    sym (at_drop_all (λ all. with_fields fields c.args.slot (map (bound closed) all)
    (scope_said c.loop-one.scope))
    c.deref-one-items.result.now c.loop-one.one-index c.loop-one-test.false)
    ∙ c.loop-one.invariant.1
    ∙ ap (λ all. with_fields fields c.args.slot (map (bound closed) all) (scope_said c.args.scope.now))
    c.deref-one-items.ensures.value

pub returns-clause-keeps : goal.returns-clause-keeps
returns-clause-keeps g c = c.loop-one.invariant.0
