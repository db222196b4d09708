use Rattle.std.proofs.Common.{ℕ, ◌+◌, List, get_or, refl, sym, subst, take}
use Rattle.au_caps_text.specs.Turning.{AreAdded}
use Rattle.au_caps_text.proofs.TurnLemmas.{added_none, added_more}
use Rattle.au_caps_text.proofs.turning.add_from.Goals as goal

pub loop-one-init : goal.loop-one-init
loop-one-init c = added_none c.args.to c.args.made.now

pub loop-one-preserved : goal.loop-one-preserved
loop-one-preserved c =
    let nodes = c.args.nodes.now in
    let i = c.loop-one.one-index in
    let to = c.args.to in
    let graph = c.args.made.now in
    subst (λ (g : List (List ℕ)). AreAdded (take (i + 1) nodes) to graph g) (sym c.in_ok-add_edge.ensures)
    (added_more nodes i (get_or nodes i 0) to graph c.loop-one.made refl c.loop-one-test.true c.loop-one.invariant)
