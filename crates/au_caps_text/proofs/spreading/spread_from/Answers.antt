use Rattle.std.proofs.Common.{ℕ, ◌<◌, ◌≤◌, Bool, List, length, subst, arith}
use Rattle.std.specs.Prelude.{◌↔◌}
use Rattle.au_graphs.specs.Marks.{IsMarked}
use Rattle.au_caps_text.specs.Putting.{IsPut}
use Rattle.au_caps_text.specs.Turning.{IsFrom}
use Rattle.au_caps_text.proofs.PutLemmas.{spread_all, spread_more, spread_start}
use Rattle.au_caps_text.proofs.spreading.spread_from.Goals as goal

pub loop-label-init : goal.loop-label-init
loop-label-init c =
    spread_start c.args.back.now c.args.labels.now c.in_ok-made.made c.node_count.result c.node_count.ensures
    c.in_ok-made.ensures

pub loop-label-preserved : goal.loop-label-preserved
loop-label-preserved c =
    let back = c.args.back.now in
    let labels = c.args.labels.now in
    let made = c.loop-label.made in
    let next = c.put_label.new.made in
    let k = c.loop-label.label in
    let seen = c.in_ok-marks.marks.items in
    let marks = subst (λ (xs : List ℕ). (a : ℕ) → a < length back → IsMarked seen a ↔ IsFrom back xs a)
    c.successors.ensures c.in_ok-marks.ensures in
    let put = subst (λ (ms : List Bool). IsPut (IsMarked ms) k made next) c.as_slice.ensures.value
    c.in_ok-put_label.ensures in
    spread_more back labels made next k (IsMarked seen) c.loop-label.invariant marks put

pub returns : goal.returns
returns c =
    let past : length c.args.labels.now ≤ c.loop-label.label = omega arith in
    spread_all c.args.back.now c.args.labels.now c.loop-label.made c.loop-label.label past c.loop-label.invariant
