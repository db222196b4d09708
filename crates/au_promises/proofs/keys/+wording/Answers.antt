use Rattle.std.proofs.Common.{◌∷◌, ◌++◌, ap, sym, ◌∙◌}
use Rattle.std.proofs.lemmas.Result.{on_ok_weaker}
use Rattle.au_syntax.specs.Views.{written, written_all}
use Rattle.au_syntax.proofs.TypeLemmas.{named_written, reference_written}
use Rattle.au_promises.specs.Keys.{access_key, meant_key, wording_key, wordings_key}
use Rattle.au_promises.proofs.WordingLemmas.{wording_turn, wordings_turn, wordings_left, wordings_end}
use Rattle.au_promises.proofs.keys.+wording.Goals as goal

pub push_wording-returns-in_ok-push_meant-in-Named : goal.push_wording-returns-in_ok-push_meant-in-Named
push_wording-returns-in_ok-push_meant-in-Named t c =
    let key = c.args.key.now.items in
    let whole = wording_key c.args.params.now c.args.names.now c.args.heads.now in
    on_ok_weaker c.push_wordings.result
    (λ h.
    wording_turn key _ _ _ _ _ _ c.in_ok-push-in-Named.ensures.items c.in_ok-push_meant-in-Named.ensures h
    ∙ ap (λ u. key ++ whole u) (sym (ap written c.in-Named.is
    ∙ named_written c.in-Named.name c.in-Named.args)))
    c.push_wordings.ensures

pub push_wording-returns-in_ok-push_meant-in-Reference
    : goal.push_wording-returns-in_ok-push_meant-in-Reference
push_wording-returns-in_ok-push_meant-in-Reference t c =
    let key = c.args.key.now.items in
    let whole = wording_key c.args.params.now c.args.names.now c.args.heads.now in
    let word = meant_key c.args.params.now c.args.names.now c.args.heads.now c.in-Reference.region.name in
    on_ok_weaker c.push_wording.result
    (λ h.
    wording_turn key _ _ _ _ _ _ c.in_ok-push-in-Reference.ensures.items
    c.in_ok-push_meant-in-Reference.ensures h
    ∙ ap (λ n. key ++ (n ∷ word ++ whole (written c.deref.result.now))) c.access_key.ensures
    ∙ ap (λ target. key ++ (access_key c.in-Reference.access ∷ word ++ whole (written target)))
    c.deref.ensures
    ∙ ap (λ u. key ++ whole u) (sym (ap written c.in-Reference.is
    ∙ reference_written c.in-Reference.field-0 c.in-Reference.access c.in-Reference.target
    c.in-Reference.region)))
    c.push_wording.ensures

pub push_wordings-loop-one-preserved : goal.push_wordings-loop-one-preserved
push_wordings-loop-one-preserved t c =
    wordings_turn _ _ _ _ _ _ _ c.in_ok-push.ensures.items c.in_ok-push_wording.ensures
    (wordings_left c.args.params.now c.args.names.now c.args.heads.now c.deref-one-items.result.now
    c.loop-one.one-index c.one-item.result c.loop-one-test.true c.one-item.is)
    c.loop-one.invariant

pub push_wordings-returns : goal.push_wordings-returns
push_wordings-returns t c =
    wordings_end c.args.params.now c.args.names.now c.args.heads.now c.deref-one-items.result.now
    c.loop-one.one-index _ _ _ c.loop-one-test.false c.loop-one.invariant c.in_ok-push-2.ensures.items
    ∙ ap (λ r. c.args.key.now.items ++ wordings_key c.args.params.now c.args.names.now c.args.heads.now
    (written_all r)) c.deref-one-items.ensures.value
