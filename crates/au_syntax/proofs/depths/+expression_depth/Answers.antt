use Rattle.std.proofs.Common.{ap, ◌∙◌}
use Rattle.std.proofs.lemmas.List.{take_all}
use Rattle.au_syntax.specs.declared.expressions.Argument.{size-Argument}
use Rattle.au_syntax.specs.Views as view
use Rattle.au_syntax.specs.Plain as plain
use Rattle.au_syntax.specs.Depths as spec
use Rattle.au_syntax.proofs.DepthLemmas as lemmas
use Rattle.au_syntax.proofs.depths.+expression_depth.Goals as goal

pub expressions_depth-returns : goal.expressions_depth-returns
expressions_depth-returns g t c =
    c.loop-one.invariant ∙ ap (λ r. spec.counted
    (spec.expressions_depth (plain.plain_expressions g.P.Phase.name_bytes
    (view.expression_all g.P.Phase r))))
    (take_all c.loop-one.one-index c.deref-one-items.result.now c.loop-one-test.false
    ∙ c.deref-one-items.ensures.value)

pub expressions_depth-loop-one-preserved : goal.expressions_depth-loop-one-preserved
expressions_depth-loop-one-preserved g t c =
    let step = lemmas.deep_expressions_more g.P.Phase c.deref-one-items.result.now c.loop-one.one-index
    c.one-item.result c.loop-one-test.true in
    let part = c.expression_depth-depth.ensures
    ∙ ap (λ one. spec.counted (spec.expression_depth
    (plain.plain_expression g.P.Phase.name_bytes (view.expression g.P.Phase one)))) c.one-item.is in
    lemmas.raised _ _ _ _ _ _ c.loop-one.invariant part c.deeper-deepest.ensures step

pub arguments_depth-returns : goal.arguments_depth-returns
arguments_depth-returns g t c =
    c.loop-one.invariant ∙ ap (λ r. spec.counted
    (spec.arguments_depth (plain.plain_arguments g.P.Phase.name_bytes (view.argument_all g.P.Phase r))))
    (take_all c.loop-one.one-index c.deref-one-items.result.now c.loop-one-test.false
    ∙ c.deref-one-items.ensures.value)

pub arguments_depth-loop-one-preserved : goal.arguments_depth-loop-one-preserved
arguments_depth-loop-one-preserved g t c =
    let step = lemmas.deep_arguments_more g.P.Phase c.deref-one-items.result.now c.loop-one.one-index
    c.one-item.result c.loop-one-test.true in
    let part = c.argument_depth-depth.ensures
    ∙ ap (λ one. spec.counted (spec.expression_depth
    (plain.plain_expression g.P.Phase.name_bytes (view.expression g.P.Phase one.value)))) c.one-item.is in
    lemmas.raised _ _ _ _ _ _ c.loop-one.invariant part c.deeper-deepest.ensures step

pub arguments_depth-argument_depth-depth-requires : goal.arguments_depth-argument_depth-depth-requires
arguments_depth-argument_depth-depth-requires g t c κs within = (
  lemmas.item_falls (size-Argument _ _ _ _) c.deref-one-items.result.now c.args.arguments.now.items
      c.loop-one.one-index c.one-item.result t
      c.decreases c.deref-one-items.ensures.value c.loop-one-test.true c.one-item.is,
  within,
)
