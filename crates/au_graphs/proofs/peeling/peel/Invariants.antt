use Rattle.au_graphs.specs.Marks.{IsPeeled}
use Rattle.au_graphs.specs.Peeling.{IsSizedAs}
use Rattle.au_graphs.proofs.peeling.peel.Given as goal

abbrev pub invariant-loop-start : goal.invariant-loop-start
invariant-loop-start l = record {
  sized : IsSizedAs l.graph l.seen.items l.done.items;
  peeled : IsPeeled l.graph l.done.items;
}
