use Rattle.std.proofs.Common.{◌<◌, length, arith}
use Rattle.au_graphs.specs.Cycles.{successors}
use Rattle.au_caps_text.proofs.TurnLemmas.{reached_back}
use Rattle.au_caps_text.proofs.spreading.spread.Goals as goal

pub returns : goal.returns
returns c = λ a l lt.
    let graph = c.args.graph.now in
    let back = c.in_ok-back.back in
    let turned = c.in_ok-back.ensures in
    let size = turned.size in
    let below : a < length back = omega arith in
    let each = c.in_ok-made.ensures a l below in
    let turn = reached_back graph back turned (successors c.args.labels.now l) a lt in (
      λ names. turn.0 (each.0 names),
      λ to. each.1 (turn.1 to),
    )
