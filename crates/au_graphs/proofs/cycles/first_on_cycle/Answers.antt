use Rattle.std.proofs.Common.{length, ⊎_elim, arith}
use Rattle.std.proofs.lemmas.Bool.{cases_lt}
use Rattle.au_graphs.proofs.CycleLemmas.{past_leads, none_not_some, none_none}
use Rattle.au_graphs.specs.Cycles.{HasNoCycle}
use Rattle.au_graphs.proofs.cycles.first_on_cycle.Goals as goal

pub returns : goal.returns
returns c =
    let graph = c.args.graph.now in
    let free : HasNoCycle graph = λ j leads.
    ⊎_elim
    (λ below. c.loop-node.invariant j (omega arith) leads)
    (λ past. past_leads graph j j past leads)
    (cases_lt j (length graph)) in
    record { found = none_not_some graph free; none = none_none graph free }
