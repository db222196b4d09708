use Rattle.std.proofs.Common.{◌∙◌, length, sym, arith}
use Rattle.std.proofs.lemmas.List.Elements.{All-more}
use Rattle.au_graphs.specs.Marks.{IsMarked}
use Rattle.au_graphs.proofs.PeelingLemmas.{less_passed}
use Rattle.au_graphs.proofs.peeling.passed_on.Goals as goal

pub loop-at-preserved : goal.loop-at-preserved
loop-at-preserved c =
    All-more (IsMarked c.args.done.now) c.args.nodes.now c.loop-at.at 0 (omega arith) c.loop-at.invariant
    (sym c.is_marked.ensures.marked ∙ c.if-not-is_marked.false)

pub returns : goal.returns
returns c = less_passed (IsMarked c.args.done.now) (length c.args.nodes.now) c.loop-at.at c.args.nodes.now
    (omega arith) c.loop-at.invariant
