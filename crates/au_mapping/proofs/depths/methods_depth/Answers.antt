use Rattle.std.proofs.Common.{ap, ◌∙◌, map}
use Rattle.std.proofs.lemmas.List.{take_all}
use Rattle.au_syntax.specs.Views as view
use Rattle.au_syntax.specs.Plain as plain
use Rattle.au_syntax.specs.Depths as spec
use Rattle.au_syntax.proofs.DepthLemmas as lemmas
use Rattle.au_mapping.proofs.depths.methods_depth.Goals as goal

pub returns : goal.returns
returns g c =
    c.loop-one.invariant ∙ ap (λ r. spec.counted (spec.greatest spec.method_depth (map (plain.plain_method
    g.P.Phase.name_bytes) (map (view.method_body g.P.Phase) r)))) (take_all c.loop-one.one-index
    c.deref-one-items.result.now c.loop-one-test.false ∙ c.deref-one-items.ensures.value)

pub loop-one-preserved : goal.loop-one-preserved
loop-one-preserved g c =
    let step = lemmas.greatest_seen_more spec.method_depth (plain.plain_method g.P.Phase.name_bytes)
    (view.method_body g.P.Phase) c.deref-one-items.result.now c.loop-one.one-index c.one-item.result
    c.loop-one-test.true in
    let part = c.block_depth-depth.ensures
    ∙ ap (λ one. spec.counted (spec.method_depth
    (plain.plain_method g.P.Phase.name_bytes (view.method_body g.P.Phase one)))) c.one-item.is in
    lemmas.raised _ _ _ _ _ _ c.loop-one.invariant part c.deeper-deepest.ensures step
