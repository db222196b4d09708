use Rattle.std.proofs.Common.{drop, ◌+◌, ap, sym, ◌∙◌}
use Rattle.std.specs.Option.{option_map}
use Rattle.au_types.proofs.TypeLemmas.{region_argument_means, type_argument_means}
use Rattle.au_types.specs.Views.{argument, argument_all, meaning}
use Rattle.au_type_texts.specs.Closing.{all_closed}
use Rattle.au_type_texts.specs.Views.{closed_meaning, closed_meanings}
use Rattle.au_type_texts.proofs.ClosingLemmas.{before, before_end, before_start, none_left, region_left, type_left}
use Rattle.au_type_texts.proofs.closing.+closed_of.Goals as goal

pub closed_arguments-loop-one-init : goal.closed_arguments-loop-one-init
closed_arguments-loop-one-init t c =
    let all = all_closed (argument_all c.deref-one-items.result.now) in
    before_start all ∙ ap (λ done. before (closed_meanings done) all) (sym c.new-list.ensures.items)

pub closed_arguments-loop-one-preserved-in_default : goal.closed_arguments-loop-one-preserved-in_default
closed_arguments-loop-one-preserved-in_default t c =
    let what = ap argument c.in_default.is ∙ region_argument_means c.in_default.field-0 in
    c.loop-one.invariant
    ∙ ap (before (closed_meanings c.loop-one.list.items))
    (region_left c.deref-one-items.result.now c.loop-one.one-index c.one-item.result c.in_default.field-0
    c.loop-one-test.true c.one-item.is what)

pub closed_arguments-returns-in_default-2 : goal.closed_arguments-returns-in_default-2
closed_arguments-returns-in_default-2 t c =
    let what = ap argument c.in-Of.is ∙ type_argument_means c.in-Of.of in
    let close = sym (ap (option_map closed_meaning) c.in_default-2.is) ∙ c.in_ok-closed.ensures in
    sym (c.loop-one.invariant ∙ none_left (closed_meanings c.loop-one.list.items) c.deref-one-items.result.now
    c.loop-one.one-index c.one-item.result (meaning c.in-Of.of) c.loop-one-test.true c.one-item.is what
    close)
    ∙ ap (λ args. all_closed (argument_all args)) c.deref-one-items.ensures.value

pub closed_arguments-loop-one-preserved : goal.closed_arguments-loop-one-preserved
closed_arguments-loop-one-preserved t c =
    let items = c.deref-one-items.result.now in
    let what = ap argument c.in-Of.is ∙ type_argument_means c.in-Of.of in
    let close = sym (ap (option_map closed_meaning) c.in-Some.is) ∙ c.in_ok-closed.ensures in
    c.loop-one.invariant
    ∙ type_left c.loop-one.list.items c.in-Some.closed items c.loop-one.one-index c.one-item.result
    (meaning c.in-Of.of) c.loop-one-test.true c.one-item.is what close
    ∙ ap (λ done. before (closed_meanings done)
    (all_closed (argument_all (drop (c.loop-one.one-index + 1) items)))) (sym c.in_ok-push.ensures.items)

pub closed_arguments-returns : goal.closed_arguments-returns
closed_arguments-returns t c =
    sym (c.loop-one.invariant ∙ before_end (closed_meanings c.loop-one.list.items)
    c.deref-one-items.result.now c.loop-one.one-index c.loop-one-test.false)
    ∙ ap (λ args. all_closed (argument_all args)) c.deref-one-items.ensures.value
