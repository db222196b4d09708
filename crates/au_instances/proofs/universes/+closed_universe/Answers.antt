use Rattle.std.proofs.Common.{◌+◌, drop, ap, sym, ◌∙◌}
use Rattle.au_matching.specs.Joined.{joined}
use Rattle.au_matching.specs.Universes.{judged}
use Rattle.au_matching.proofs.UniverseLemmas.{joined_end, joined_joined, judged_empty, judged_first}
use Rattle.au_type_texts.specs.Views.{closed_meaning, closed_meanings}
use Rattle.au_instances.specs.ClosedInstances.{closed_universe, closed_universes}
use Rattle.au_instances.proofs.WalkLemmas.{item_left}
use Rattle.std.proofs.lemmas.List.{drop_all}
use Rattle.std.proofs.Common.{refl}
use Rattle.au_instances.proofs.universes.+closed_universe.Goals as goal

pub judged-loop-one-preserved : goal.judged-loop-one-preserved
judged-loop-one-preserved t c =
    let heads = c.args.heads.now in
    let items = c.deref-one-items.result.now in
    let i = c.loop-one.one-index in
    let rest = judged (closed_universes heads (closed_meanings (drop (i + 1) items))) in
    c.loop-one.invariant
    ∙ ap (λ list. joined c.loop-one.so_far (judged (closed_universes heads (closed_meanings list))))
    (item_left items items i c.one-item.result refl c.loop-one-test.true c.one-item.is)
    ∙ ap (joined c.loop-one.so_far)
    (judged_first (closed_universe heads (closed_meaning c.one-item.result))
    (closed_universes heads (closed_meanings (drop (i + 1) items))))
    ∙ joined_joined c.loop-one.so_far (closed_universe heads (closed_meaning c.one-item.result)) rest
    ∙ ap (λ u. joined (joined c.loop-one.so_far u) rest) (sym c.closed_universe.ensures)
    ∙ ap (λ u. joined u rest) (sym c.joined-so_far.ensures)

pub judged-returns : goal.judged-returns
judged-returns t c =
    let heads = c.args.heads.now in
    let items = c.deref-one-items.result.now in
    sym (sym (ap (λ list. judged (closed_universes heads (closed_meanings list))) c.deref-one-items.ensures.value)
    ∙ c.loop-one.invariant
    ∙ ap (λ list. joined c.loop-one.so_far (judged (closed_universes heads (closed_meanings list))))
    (drop_all c.loop-one.one-index items c.loop-one-test.false)
    ∙ ap (joined c.loop-one.so_far) judged_empty
    ∙ joined_end c.loop-one.so_far)
