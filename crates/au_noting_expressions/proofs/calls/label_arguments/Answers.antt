use Rattle.std.proofs.Common.{◌∙◌, sym, drop}
use Rattle.std.proofs.lemmas.List.{nil_from_length}
use Rattle.std.specs.Vec.Iter.{into_iter_items}
use Rattle.au_noting_expressions.proofs.LabelLemmas.{labels_end, labels_more, labels_short}
use Rattle.au_noting_expressions.proofs.calls.label_arguments.Goals as goal

pub returns-in-None : goal.returns-in-None
returns-in-None c =
    sym (labels_short c.loop-one.made.items (drop c.loop-one.one-index c.deref-one-items.result.now)
    (into_iter_items c.loop-one.values)
    (nil_from_length _ (sym c.loop-one.values.rest.ok.0 ∙ c.in-None.ensures.cases.0)))
    ∙ c.loop-one.invariant

pub loop-one-preserved : goal.loop-one-preserved
loop-one-preserved c =
    labels_more c.loop-one.made.items c.push.new.self.items c.deref-one-items.result.now c.loop-one.one-index
    c.one-item.result
    (record { label = c.in_ok-label.label; value = c.in-Some.value }) (into_iter_items c.loop-one.values)
    (into_iter_items c.next.new.self)
    c.loop-one-test.true c.one-item.is c.in_ok-label.ensures c.in-Some.ensures.cases.0
    c.in_ok-push-in-Some.ensures.items
    ∙ c.loop-one.invariant

pub returns : goal.returns
returns c =
    sym (labels_end c.loop-one.made.items c.deref-one-items.result.now c.loop-one.one-index
    (into_iter_items c.loop-one.values) c.loop-one-test.false)
    ∙ c.loop-one.invariant
