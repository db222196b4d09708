use Rattle.std.proofs.Common.{ℕ, ◌≤◌, List, length, subst, arith}
use Rattle.au_caps_text.specs.Turning.{AreAdded}
use Rattle.au_caps_text.proofs.TurnLemmas.{turned_all, turned_more, turned_none}
use Rattle.au_caps_text.proofs.turning.turned.Goals as goal

pub loop-node-init : goal.loop-node-init
loop-node-init c =
    turned_none c.args.graph.now c.node_count.result c.node_count.ensures c.in_ok-made.made c.in_ok-made.ensures

pub loop-node-preserved : goal.loop-node-preserved
loop-node-preserved c =
    let made = c.loop-node.made in
    let next = c.add_from.new.made in
    let k = c.loop-node.node in
    let added = subst (λ (xs : List ℕ). AreAdded xs k made next) c.successors.ensures c.in_ok-add_from.ensures in
    turned_more c.args.graph.now made next k c.loop-node.invariant added

pub returns : goal.returns
returns c =
    let past : length c.args.graph.now ≤ c.loop-node.node = omega arith in
    turned_all c.args.graph.now c.loop-node.made c.loop-node.node past c.loop-node.invariant
