use Rattle.std.proofs.Common.{subst, sym}
use Rattle.au_caps.specs.Webs.{IsGraphOf}
use Rattle.au_caps.proofs.PairLemmas.{made_more, made_none}
use Rattle.au_caps.proofs.webs.graph_of.Goals as goal

pub loop-one-init : goal.loop-one-init
loop-one-init c = made_none c.args.nodes c.in_ok-graph.graph c.in_ok-graph.ensures

pub loop-one-preserved : goal.loop-one-preserved
loop-one-preserved c =
    subst (IsGraphOf c.args.nodes _) (sym c.in_ok-add_edge.ensures)
    (made_more c.args.nodes c.args.pairs.now c.loop-one.one-index (0, 0) c.loop-one.graph c.loop-one-test.true
    c.loop-one.invariant)
