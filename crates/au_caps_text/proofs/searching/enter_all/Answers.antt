use Rattle.std.proofs.Common.{ℕ, List, [], ◌∷◌, take, get_or, sym, subst, arith}
use Rattle.std.proofs.lemmas.List.{take_more}
use Rattle.au_graphs.specs.Marks.{Entered}
use Rattle.au_graphs.proofs.SearchLemmas.{entered_both, entered_none}
use Rattle.au_caps_text.proofs.searching.enter_all.Goals as goal

pub loop-node-init : goal.loop-node-init
loop-node-init c = entered_none c.args.seen.now.items c.args.work.now.items

pub loop-node-preserved : goal.loop-node-preserved
loop-node-preserved c =
    let nodes = c.args.nodes.now in
    let at = c.loop-node.node-index in
    let seen = c.args.seen.now.items in
    let work = c.args.work.now.items in
    let now = c.enter.new.seen.items in
    let list = c.enter.new.work.items in
    let both = entered_both (take at nodes) (get_or nodes at 0 ∷ []) seen work c.loop-node.seen.items
    c.loop-node.work.items now list c.loop-node.invariant c.in_ok-enter.ensures in
    subst (λ (xs : List ℕ). Entered xs seen work now list) (sym (take_more nodes at 0 (omega arith))) both
