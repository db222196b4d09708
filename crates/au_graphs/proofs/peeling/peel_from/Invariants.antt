use Rattle.std.specs.List.{All}
use Rattle.au_graphs.specs.Marks.{IsPeeled}
use Rattle.au_graphs.specs.Peeling.{IsSizedAs, IsVisit, left_to_do}
use Rattle.au_graphs.proofs.peeling.peel_from.Given as goal

abbrev pub invariant-loop-visit : goal.invariant-loop-visit
invariant-loop-visit l = record {
  sized : IsSizedAs l.graph l.seen.items l.done.items;
  peeled : IsPeeled l.graph l.done.items;
  path : All (IsVisit l.graph l.done.items) l.path.items;
}

abbrev pub decreases-loop-visit : goal.decreases-loop-visit
decreases-loop-visit l = left_to_do l.seen.items l.path.items
