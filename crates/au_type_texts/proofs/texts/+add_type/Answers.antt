use Rattle.std.proofs.Common.{◌++◌, length, ap, ◌∙◌, sym}
use Rattle.std.proofs.lemmas.Bool.{eqb-false}
use Rattle.std.proofs.lemmas.Result.{on_ok_weaker}
use Rattle.au_base.proofs.ListLemmas.{turn}
use Rattle.au_types.proofs.TypeLemmas.{text_means}
use Rattle.au_types.specs.Views.{argument_all, meaning}
use Rattle.au_type_texts.specs.Texts as texts
use Rattle.au_type_texts.proofs.TextLemmas as lemmas
use Rattle.au_type_texts.proofs.texts.+add_type.Goals as goal

pub add_arguments-loop-one-init : goal.add_arguments-loop-one-init
add_arguments-loop-one-init t c =
    let args = c.args.args.now in
    let items = c.deref-one-items.result.now in
    ap (λ r. c.args.text.now ++ r)
    (lemmas.left_all c.args.heads.now items
    (λ e. eqb-false args.len 0 (sym c.is_empty.ensures ∙ c.if-is_empty.false)
    (args.ok.0 ∙ ap length (sym c.deref-one-items.ensures.value) ∙ e)))

pub add_arguments-loop-one-preserved : goal.add_arguments-loop-one-preserved
add_arguments-loop-one-preserved t c =
    let left = lemmas.left_more c.args.heads.now c.loop-one.mark.now c.deref-one-items.result.now
    c.loop-one.one-index c.one-item.result c.loop-one-test.true c.one-item.is in
    turn _ _ _ _ _ _ _ _ c.in_ok-append.ensures.ok c.in_ok-add_argument.ensures left c.loop-one.invariant

pub add_arguments-returns : goal.add_arguments-returns
add_arguments-returns t c =
    let heads = c.args.heads.now in
    on_ok_weaker c.append-2.result
    (λ h.
    h
    ∙ ap (λ r. c.loop-one.text ++ r)
    (sym (lemmas.left_none heads c.loop-one.mark.now c.deref-one-items.result.now c.loop-one.one-index
    c.loop-one-test.false))
    ∙ c.loop-one.invariant
    ∙ ap (λ r. c.args.text.now ++ texts.arguments_text heads (argument_all r)) c.deref-one-items.ensures.value)
    c.append-2.ensures.ok

pub add_reference-returns : goal.add_reference-returns
add_reference-returns t c =
    on_ok_weaker c.append-3.result
    (λ h. lemmas.pieces _ _ _ _ _ _ _ _ _ _ _ c.in_ok-append.ensures.ok c.in_ok-add_type.ensures
    c.in_ok-append-2.ensures.ok c.in_ok-add_region.ensures h)
    c.append-3.ensures.ok

pub add_type-returns-in-Text : goal.add_type-returns-in-Text
add_type-returns-in-Text t c =
    on_ok_weaker c.append-in-Text.result
    (λ h. h ∙ ap (λ m. c.args.text.now ++ texts.text_of c.args.heads.now m)
    (sym (ap meaning c.in-Text.is ∙ text_means))) c.append-in-Text.ensures.ok
