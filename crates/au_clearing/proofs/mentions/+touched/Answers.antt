use Rattle.std.proofs.Common.{true, ◌||◌, OnOk, refl, subst, ap, sym, ◌∙◌}
use Rattle.std.proofs.lemmas.Result.{on_ok_weaker}
use Rattle.au_syntax.specs.Plain.{plain_expression}
use Rattle.au_syntax.proofs.ExpressionLemmas as says
use Rattle.au_lives.specs.Mentions.{is_variable, may_skip}
use Rattle.au_clearing.specs.Seen.{seen_name, seen_expression, seen_expressions, seen_arguments}
use Rattle.au_clearing.specs.Touches.{Quiet, where_named, touched, touched_in_all, touched_in_arguments}
use Rattle.au_clearing.specs.Deals.{Meets}
use Rattle.au_clearing.proofs.MentionLemmas.{item_met, items_met, meets_then, meets_same, met_as, unmet_as}
use Rattle.au_clearing.proofs.MentionLemmas.{named_alone, or_both}
use Rattle.au_clearing.proofs.mentions.+touched.Goals as goal

pub touch_all-loop-one-init : goal.touch_all-loop-one-init
touch_all-loop-one-init g t c = λ x free. refl

pub touch_all-loop-one-preserved : goal.touch_all-loop-one-preserved
touch_all-loop-one-preserved g t c =
    item_met
    (λ es x free. touched_in_all x (free || c.args.looked) c.args.part (seen_expressions g.P.Phase es))
    (λ e x free. touched x (free || c.args.looked) c.args.part (seen_expression g.P.Phase e))
    (λ a rest x free. refl) c.deref-one-items.result.now c.loop-one.one-index c.one-item.result c.one-item.is
    c.loop-one-test.true c.args.table.now c.loop-one.table c.touch.new.table c.loop-one.invariant
    c.in_ok-touch.ensures

pub touch_all-returns : goal.touch_all-returns
touch_all-returns g t c =
    subst
    (λ es. Meets c.args.table.now c.loop-one.table
    (λ x free. touched_in_all x (free || c.args.looked) c.args.part (seen_expressions g.P.Phase es)))
    c.deref-one-items.ensures.value
    (items_met
    (λ es x free. touched_in_all x (free || c.args.looked) c.args.part (seen_expressions g.P.Phase es))
    (λ e x free. touched x (free || c.args.looked) c.args.part (seen_expression g.P.Phase e)) (λ x free. refl)
    c.deref-one-items.result.now c.loop-one.one-index c.loop-one-test.false c.args.table.now c.loop-one.table
    c.loop-one.invariant)

pub touch_arguments-loop-one-init : goal.touch_arguments-loop-one-init
touch_arguments-loop-one-init g t c = λ x free. refl

pub touch_arguments-loop-one-preserved : goal.touch_arguments-loop-one-preserved
touch_arguments-loop-one-preserved g t c =
    item_met
    (λ es x free. touched_in_arguments x (free || c.args.looked) c.args.part (seen_arguments g.P.Phase es))
    (λ e x free. touched x (free || c.args.looked) c.args.part (seen_expression g.P.Phase e.value))
    (λ a rest x free. refl) c.deref-one-items.result.now c.loop-one.one-index c.one-item.result c.one-item.is
    c.loop-one-test.true c.args.table.now c.loop-one.table c.touch_argument.new.table c.loop-one.invariant
    c.in_ok-touch_argument.ensures

pub touch_arguments-returns : goal.touch_arguments-returns
touch_arguments-returns g t c =
    subst
    (λ es. Meets c.args.table.now c.loop-one.table
    (λ x free. touched_in_arguments x (free || c.args.looked) c.args.part (seen_arguments g.P.Phase es)))
    c.deref-one-items.ensures.value
    (items_met
    (λ es x free. touched_in_arguments x (free || c.args.looked) c.args.part (seen_arguments g.P.Phase es))
    (λ e x free. touched x (free || c.args.looked) c.args.part (seen_expression g.P.Phase e.value))
    (λ x free. refl) c.deref-one-items.result.now c.loop-one.one-index c.loop-one-test.false c.args.table.now
    c.loop-one.table c.loop-one.invariant)

pub touch-returns-in-Number : goal.touch-returns-in-Number
touch-returns-in-Number g t c =
    let is = ap (seen_expression g.P.Phase) c.in-Number.is ∙ ap (plain_expression g.P.Phase.name_bytes)
    (says.number_says g.P.Phase _ _) in
    unmet_as c.args.table.now c.args.looked c.args.part _ _ is (λ x free. refl)

pub touch-returns-in-Negative : goal.touch-returns-in-Negative
touch-returns-in-Negative g t c =
    let is = ap (seen_expression g.P.Phase) c.in-Negative.is ∙ ap (plain_expression g.P.Phase.name_bytes)
    (says.negative_says g.P.Phase _ _) in
    unmet_as c.args.table.now c.args.looked c.args.part _ _ is (λ x free. refl)

pub touch-returns-in-Text : goal.touch-returns-in-Text
touch-returns-in-Text g t c =
    let is = ap (seen_expression g.P.Phase) c.in-Text.is ∙ ap (plain_expression g.P.Phase.name_bytes)
    (says.text_says g.P.Phase _ _) in
    unmet_as c.args.table.now c.args.looked c.args.part _ _ is (λ x free. refl)

pub touch-returns-in-Bool : goal.touch-returns-in-Bool
touch-returns-in-Bool g t c =
    let is = ap (seen_expression g.P.Phase) c.in-Bool.is ∙ ap (plain_expression g.P.Phase.name_bytes)
    (says.bool_says g.P.Phase _ _) in
    unmet_as c.args.table.now c.args.looked c.args.part _ _ is (λ x free. refl)

pub touch-returns-in-Nil : goal.touch-returns-in-Nil
touch-returns-in-Nil g t c =
    let is = ap (seen_expression g.P.Phase) c.in-Nil.is ∙ ap (plain_expression g.P.Phase.name_bytes)
    (says.nil_says g.P.Phase _) in
    unmet_as c.args.table.now c.args.looked c.args.part _ _ is (λ x free. refl)

pub touch-returns-in-Call : goal.touch-returns-in-Call
touch-returns-in-Call g t c =
    let is = ap (seen_expression g.P.Phase) c.in-Call.is ∙ ap (plain_expression g.P.Phase.name_bytes)
    (says.call_says g.P.Phase _ _ _ _) in
    met_as c.touch_all.result c.args.table.now c.touch_all.new.table c.args.looked c.args.part _ _ is
    c.touch_all.ensures

pub touch-returns-in-NamedCall : goal.touch-returns-in-NamedCall
touch-returns-in-NamedCall g t c =
    let is = ap (seen_expression g.P.Phase) c.in-NamedCall.is ∙ ap (plain_expression g.P.Phase.name_bytes)
    (says.named_call_says g.P.Phase _ _ _ _) in
    met_as c.touch_arguments.result c.args.table.now c.touch_arguments.new.table c.args.looked c.args.part _ _ is
    c.touch_arguments.ensures

pub touch-returns-in-Arrow : goal.touch-returns-in-Arrow
touch-returns-in-Arrow g t c =
    let is = ap (seen_expression g.P.Phase) c.in-Arrow.is ∙ ap (plain_expression g.P.Phase.name_bytes)
    (says.arrow_says g.P.Phase _ _ _) in
    met_as c.mention_as.result c.args.table.now c.mention_as.new.table c.args.looked c.args.part _ _ is
    c.mention_as.ensures

pub touch-returns-in-Borrow : goal.touch-returns-in-Borrow
touch-returns-in-Borrow g t c =
    let is = ap (seen_expression g.P.Phase) c.in-Borrow.is ∙ ap (plain_expression g.P.Phase.name_bytes)
    (says.borrow_says g.P.Phase _ _ _) in
    met_as c.mention_as-in-Borrow.result c.args.table.now c.mention_as-in-Borrow.new.table c.args.looked
    c.args.part _ _ is
    (subst
    (λ touch. OnOk c.mention_as-in-Borrow.result
    (Meets c.args.table.now c.mention_as-in-Borrow.new.table
    (λ x free. where_named x (seen_name g.P.Phase c.in-Borrow.name).name touch)))
    c.borrowed.ensures c.mention_as-in-Borrow.ensures)

pub touch-returns-in-BorrowPart : goal.touch-returns-in-BorrowPart
touch-returns-in-BorrowPart g t c =
    let is = ap (seen_expression g.P.Phase) c.in-BorrowPart.is ∙ ap (plain_expression g.P.Phase.name_bytes)
    (says.borrow_part_says g.P.Phase _ _ _) in
    met_as c.mention_as-in-BorrowPart.result c.args.table.now c.mention_as-in-BorrowPart.new.table
    c.args.looked c.args.part _ _ is
    c.mention_as-in-BorrowPart.ensures

pub touch-returns-in-Parenthesized : goal.touch-returns-in-Parenthesized
touch-returns-in-Parenthesized g t c =
    let is = ap (seen_expression g.P.Phase) c.in-Parenthesized.is ∙ ap (plain_expression g.P.Phase.name_bytes)
    (says.parenthesized_says g.P.Phase _ _) in
    met_as c.touch.result c.args.table.now c.touch.new.table c.args.looked c.args.part _ _ is
    (subst
    (λ e. OnOk c.touch.result
    (Meets c.args.table.now c.touch.new.table
    (λ x free. touched x (free || c.args.looked) c.args.part (seen_expression g.P.Phase e))))
    c.deref.ensures c.touch.ensures)

pub touch-returns-in-Not : goal.touch-returns-in-Not
touch-returns-in-Not g t c =
    let is = ap (seen_expression g.P.Phase) c.in-Not.is ∙ ap (plain_expression g.P.Phase.name_bytes)
    (says.not_says g.P.Phase _ _) in
    met_as c.touch-in-Not.result c.args.table.now c.touch-in-Not.new.table c.args.looked c.args.part _ _ is
    (subst
    (λ e. OnOk c.touch-in-Not.result
    (Meets c.args.table.now c.touch-in-Not.new.table
    (λ x free. touched x (free || c.args.looked) c.args.part (seen_expression g.P.Phase e))))
    c.deref-in-Not.ensures c.touch-in-Not.ensures)

pub touch-returns-in-Typed : goal.touch-returns-in-Typed
touch-returns-in-Typed g t c =
    let is = ap (seen_expression g.P.Phase) c.in-Typed.is ∙ ap (plain_expression g.P.Phase.name_bytes)
    (says.typed_says g.P.Phase _ _ _) in
    met_as c.touch-in-Typed.result c.args.table.now c.touch-in-Typed.new.table c.args.looked c.args.part _ _ is
    (subst
    (λ e. OnOk c.touch-in-Typed.result
    (Meets c.args.table.now c.touch-in-Typed.new.table
    (λ x free. touched x (free || c.args.looked) c.args.part (seen_expression g.P.Phase e))))
    c.deref-in-Typed.ensures c.touch-in-Typed.ensures)

pub touch-returns-in-Path : goal.touch-returns-in-Path
touch-returns-in-Path g t c =
    let is = ap (seen_expression g.P.Phase) c.in-Path.is ∙ ap (plain_expression g.P.Phase.name_bytes)
    (says.path_says g.P.Phase _ _ _) in
    met_as c.mention.result c.args.table.now c.mention.new.table c.args.looked c.args.part _ _ is
    (on_ok_weaker c.mention.result
    (λ met. meets_same c.args.table.now c.mention.new.table _ _ met
    (λ x free. ap (where_named x (seen_name g.P.Phase c.in-Path.name).name)
    (named_alone record { owned = c.alone.result; free = Quiet } c.args.looked c.args.part _ c.alone.ensures refl
    free)))
    c.mention.ensures)

pub touch-returns-in-Dereference : goal.touch-returns-in-Dereference
touch-returns-in-Dereference g t c =
    let is = ap (seen_expression g.P.Phase) c.in-Dereference.is ∙ ap (plain_expression g.P.Phase.name_bytes)
    (says.dereference_says g.P.Phase _ _) in
    let inner = seen_expression g.P.Phase c.in-Dereference.inner.value in
    let same = ap (seen_expression g.P.Phase) c.deref-in-Dereference.ensures in
    let behind = c.either-behind.ensures ∙ ap (λ v. c.args.looked || v) (c.is_variable.ensures ∙ ap is_variable same) in
    met_as c.touch-in-Dereference.result c.args.table.now c.touch-in-Dereference.new.table c.args.looked
    c.args.part _ _ is
    (on_ok_weaker c.touch-in-Dereference.result
    (λ met. meets_same c.args.table.now c.touch-in-Dereference.new.table _ _ met
    (λ x free.
    ap (λ e. touched x (free || c.either-behind.result) c.args.part (seen_expression g.P.Phase e))
    c.deref-in-Dereference-2.ensures
    ∙ ap (λ l. touched x l c.args.part inner)
    (ap (λ l. free || l) behind ∙ sym (or_both free c.args.looked (is_variable inner)))))
    c.touch-in-Dereference.ensures)

pub touch-returns-in_ok-touch-in-Binary : goal.touch-returns-in_ok-touch-in-Binary
touch-returns-in_ok-touch-in-Binary g t c =
    let is = ap (seen_expression g.P.Phase) c.in-Binary.is ∙ ap (plain_expression g.P.Phase.name_bytes)
    (says.binary_says g.P.Phase _ _ _ _) in
    let skips = c.either-skipped.ensures ∙ ap (λ v. c.args.part || v) c.may_skip.ensures in
    let first =
    subst
    (λ e. Meets c.args.table.now c.touch-in-Binary.new.table
    (λ x free. touched x (free || c.args.looked) c.args.part (seen_expression g.P.Phase e)))
    c.deref-in-Binary.ensures c.in_ok-touch-in-Binary.ensures in
    met_as c.touch-in-Binary-2.result c.args.table.now c.touch-in-Binary-2.new.table c.args.looked c.args.part _ _
    is
    (on_ok_weaker c.touch-in-Binary-2.result
    (λ met. meets_then c.args.table.now c.touch-in-Binary.new.table c.touch-in-Binary-2.new.table _ _ first
    (meets_same c.touch-in-Binary.new.table c.touch-in-Binary-2.new.table _ _ met
    (λ x free.
    ap (λ p. touched x (free || c.args.looked) p (seen_expression g.P.Phase c.deref-in-Binary-2.result.now)) skips
    ∙ ap (λ e. touched x (free || c.args.looked) (c.args.part || may_skip c.in-Binary.operator)
    (seen_expression g.P.Phase e)) c.deref-in-Binary-2.ensures)))
    c.touch-in-Binary-2.ensures)

pub touch-returns-in_ok-touch-in-If-2 : goal.touch-returns-in_ok-touch-in-If-2
touch-returns-in_ok-touch-in-If-2 g t c =
    let is = ap (seen_expression g.P.Phase) c.in-If.is ∙ ap (plain_expression g.P.Phase.name_bytes)
    (says.if_says g.P.Phase _ _ _ _) in
    let test =
    subst
    (λ e. Meets c.args.table.now c.touch-in-If.new.table
    (λ x free. touched x (free || c.args.looked) c.args.part (seen_expression g.P.Phase e)))
    c.deref-in-If.ensures c.in_ok-touch-in-If.ensures in
    let first =
    subst
    (λ e. Meets c.touch-in-If.new.table c.touch-in-If-2.new.table
    (λ x free. touched x (free || c.args.looked) true (seen_expression g.P.Phase e)))
    c.deref-in-If-2.ensures c.in_ok-touch-in-If-2.ensures in
    met_as c.touch-in-If-3.result c.args.table.now c.touch-in-If-3.new.table c.args.looked c.args.part _ _ is
    (on_ok_weaker c.touch-in-If-3.result
    (λ met. meets_then c.args.table.now c.touch-in-If.new.table c.touch-in-If-3.new.table _ _ test
    (meets_then c.touch-in-If.new.table c.touch-in-If-2.new.table c.touch-in-If-3.new.table _ _ first
    (meets_same c.touch-in-If-2.new.table c.touch-in-If-3.new.table _ _ met
    (λ x free. ap (λ e. touched x (free || c.args.looked) true (seen_expression g.P.Phase e))
    c.deref-in-If-3.ensures))))
    c.touch-in-If-3.ensures)
