use Rattle.std.proofs.Common.{Some, ap, subst, ◌≡◌, true, ◌∙◌}
use Rattle.std.specs.Prelude.{not}
use Rattle.au_types.specs.Tables.{has_name}
use Rattle.au_classes.specs.Indices.{with_key}
use Rattle.au_classes.specs.InstanceViews.{methods_of}
use Rattle.au_classes.specs.Methods.{is_doubled}
use Rattle.au_classes.proofs.MethodLemmas.{named_again, named_next}
use Rattle.au_classes.proofs.methods.methods_by_name.Goals as goal

pub returns-then-not-is_new : goal.returns-then-not-is_new
returns-then-not-is_new c =
    let doubled = named_again c.deref-one-items.result.now c.loop-index.index c.one-item.result
    c.loop-index.table c.in_ok-is_new.is_new c.loop-index.invariant c.loop-index-test.true c.one-item.is
    (c.in_ok-is_new.ensures.fresh ∙ ap (λ n. not (has_name n c.loop-index.table)) c.as_bytes.ensures.bytes)
    c.if-not-is_new.true in
    subst (λ xs. is_doubled (methods_of xs) ≡ true) c.deref-one-items.ensures.value doubled

pub loop-index-preserved : goal.loop-index-preserved
loop-index-preserved c =
    named_next c.deref-one-items.result.now c.loop-index.index c.one-item.result c.loop-index.table
    c.in_ok-is_new.is_new c.put.new.self c.loop-index.invariant c.loop-index-test.true c.one-item.is
    (c.in_ok-is_new.ensures.fresh ∙ ap (λ n. not (has_name n c.loop-index.table)) c.as_bytes.ensures.bytes)
    c.if-not-is_new.false
    (c.in_ok-is_new.ensures.pairs ∙ ap (λ n. with_key c.loop-index.table (Some n) c.loop-index.index)
    c.as_bytes.ensures.bytes)
