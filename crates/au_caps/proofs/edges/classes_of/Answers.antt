use Rattle.std.proofs.Common.{◌++◌, ap, ◌∙◌, sym}
use Rattle.au_sights.specs.contracts.noted.NotedPhase.TheImpl.{ghosts as noted}
use Rattle.au_syntax.specs.Modules.{Constrained}
use Rattle.au_syntax.specs.Plain.{Bytes}
use Rattle.au_syntax.specs.Views.{constrained}
use Rattle.au_types.specs.WrittenViews.{sense_in}
use Rattle.au_caps.specs.Making.{classes_named}
use Rattle.au_caps_lists.proofs.LoopLemmas.{flat_more}
use Rattle.au_caps.proofs.edges.classes_of.Goals as goal

pub loop-one-preserved : goal.loop-one-preserved
loop-one-preserved c =
    let sense = sense_in c.args.scope.now in
    let items = c.deref-one-items.result.now in
    let i = c.loop-one.one-index in
    let item = c.one-item.result in
    c.in_ok-push_classes.ensures
    ∙ ap (λ l. l ++ classes_named sense (constrained noted item).classes) c.loop-one.invariant
    ∙ sym (flat_more items i item c.loop-one-test.true c.one-item.is (constrained noted)
    (λ (one : Constrained Bytes). classes_named sense one.classes))
