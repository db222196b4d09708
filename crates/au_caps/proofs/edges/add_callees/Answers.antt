use Rattle.std.proofs.Common.{◌+◌, map, subst, sym, take}
use Rattle.std.specs.List.{flat_map}
use Rattle.std.specs.Prelude.{◌<◌}
use Rattle.au_caps.specs.Views.{callee_said}
use Rattle.au_caps.specs.Webs.{birth_pairs, call_arcs}
use Rattle.au_caps_lists.proofs.LoopLemmas.{flat_more}
use Rattle.au_caps.proofs.GrowLemmas.{grows_as, grows_none, grows_then}
use Rattle.au_caps.proofs.edges.add_callees.Goals as goal

pub loop-one-init : goal.loop-one-init
loop-one-init c =
    grows_none c.args.web.now

pub add_callee-requires : goal.add_callee-requires
add_callee-requires c =
    subst (λ n. c.args.own < n) (sym c.loop-one.invariant.count) c.requires

pub loop-one-preserved : goal.loop-one-preserved
loop-one-preserved c =
    let items = c.deref-one-items.result.now in
    let i = c.loop-one.one-index in
    let item = c.one-item.result in
    let arcs = call_arcs c.args.own in
    let births = birth_pairs c.args.reaching.now c.args.own in
    grows_as _ (flat_map arcs (map callee_said (take (i + 1) items))) _
    (flat_map births (map callee_said (take (i + 1) items))) _ _
    (sym (flat_more items i item c.loop-one-test.true c.one-item.is callee_said arcs))
    (sym (flat_more items i item c.loop-one-test.true c.one-item.is callee_said births))
    (grows_then (flat_map arcs (map callee_said (take i items))) (arcs (callee_said item))
    (flat_map births (map callee_said (take i items))) (births (callee_said item)) _ _ _ c.loop-one.invariant
    c.in_ok-add_callee.ensures)
