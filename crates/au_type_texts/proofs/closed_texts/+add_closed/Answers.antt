use Rattle.std.proofs.Common.{◌++◌, length, ap, ◌∙◌, sym}
use Rattle.std.proofs.lemmas.Bool.{eqb-false}
use Rattle.std.proofs.lemmas.Result.{on_ok_weaker}
use Rattle.au_base.proofs.ListLemmas.{turn}
use Rattle.au_type_texts.specs.ClosedTexts.{list_text, text_of}
use Rattle.au_type_texts.specs.Views.{closed_meaning, closed_meanings}
use Rattle.au_type_texts.proofs.ClosedLemmas.{text_means}
use Rattle.au_type_texts.proofs.ClosedTextLemmas as lemmas
use Rattle.au_type_texts.proofs.closed_texts.+add_closed.Goals as goal

pub add_list-loop-one-init : goal.add_list-loop-one-init
add_list-loop-one-init t c =
    let list = c.args.list.now in
    let items = c.deref-one-items.result.now in
    ap (λ r. c.args.text.now ++ r)
    (lemmas.left_all c.args.heads.now items
    (λ e. eqb-false list.len 0 (sym c.is_empty.ensures ∙ c.if-is_empty.false)
    (list.ok.0 ∙ ap length (sym c.deref-one-items.ensures.value) ∙ e)))

pub add_list-loop-one-preserved : goal.add_list-loop-one-preserved
add_list-loop-one-preserved t c =
    let left = lemmas.left_more c.args.heads.now c.loop-one.mark.now c.deref-one-items.result.now
    c.loop-one.one-index c.one-item.result c.loop-one-test.true c.one-item.is in
    turn _ _ _ _ _ _ _ _ c.in_ok-append.ensures.ok c.in_ok-add_closed.ensures left c.loop-one.invariant

pub add_list-returns : goal.add_list-returns
add_list-returns t c =
    let heads = c.args.heads.now in
    on_ok_weaker c.append-2.result
    (λ h.
    h
    ∙ ap (λ r. c.loop-one.text ++ r)
    (sym (lemmas.left_none heads c.loop-one.mark.now c.deref-one-items.result.now c.loop-one.one-index
    c.loop-one-test.false))
    ∙ c.loop-one.invariant
    ∙ ap (λ r. c.args.text.now ++ list_text heads (closed_meanings r)) c.deref-one-items.ensures.value)
    c.append-2.ensures.ok

pub add_reference-returns : goal.add_reference-returns
add_reference-returns t c =
    on_ok_weaker c.append-2.result
    (λ h. lemmas.pieces _ _ _ _ _ _ _ c.in_ok-append.ensures.ok c.in_ok-add_closed.ensures h)
    c.append-2.ensures.ok

pub add_closed-returns-in-Text : goal.add_closed-returns-in-Text
add_closed-returns-in-Text t c =
    on_ok_weaker c.append-in-Text.result
    (λ h. h ∙ ap (λ m. c.args.text.now ++ text_of c.args.heads.now m)
    (sym (ap closed_meaning c.in-Text.is ∙ text_means))) c.append-in-Text.ensures.ok
