use Rattle.std.proofs.Common.{[], ap, sym, true, ◌∙◌}
use Rattle.au_graphs.specs.Reached.{adds}
use Rattle.au_type_texts.specs.Same.{same}
use Rattle.au_type_texts.specs.Views.{closed_meaning, closed_meanings}
use Rattle.au_type_texts.proofs.ClosedLemmas.{named_means}
use Rattle.au_closed_trees.specs.Occurring.{all_occurring, counts_in}
use Rattle.au_closed_trees.specs.Gathering.{parts_of}
use Rattle.au_closed_trees.specs.Telling.{type_one}
use Rattle.au_closed_trees.proofs.GatheringLemmas.{named_whole, one_more}
use Rattle.au_closed_trees.proofs.gathering.+gather.Goals as goal

pub gather-close-requires : goal.gather-close-requires
gather-close-requires t c of key =
    let all = c.gather_all.new.found in
    ap (λ u. adds same all (parts_of u))
    (type_one of (closed_meaning c.args.of.now) (sym key ∙ c.in_ok-key-in-Named.ensures))
    ∙ named_whole c.args.found.now c.put.new.self all c.in-Named.of (closed_meanings c.in-Named.args.items)
    (closed_meaning c.args.of.now)
    (ap closed_meaning c.in-Named.is ∙ named_means c.in-Named.of c.in-Named.args)
    c.in_ok-put-in-Named.ensures c.in_ok-gather_all-in-Named.ensures

pub gather_all-loop-one-preserved : goal.gather_all-loop-one-preserved
gather_all-loop-one-preserved t c =
    one_more c.deref-one-items.result.now c.loop-one.one-index c.one-item.result c.loop-one.found
    c.gather.new.found
    (adds same c.args.found.now
    (all_occurring (counts_in true []) (closed_meanings c.deref-one-items.result.now)))
    c.loop-one-test.true c.one-item.is c.in_ok-gather.ensures c.loop-one.invariant
