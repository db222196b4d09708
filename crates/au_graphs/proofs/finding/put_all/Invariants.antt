use Rattle.std.proofs.Common.{◌≡◌, map}
use Rattle.std.specs.Vec.Iter.{into_iter_items}
use Rattle.au_graphs.specs.Finding.{IsKeyed, adds_to, found_in}
use Rattle.au_graphs.proofs.finding.put_all.Given as goal

-- what is left to be put makes of the elements what all make of those at first
abbrev pub invariant-loop-item : goal.invariant-loop-item
invariant-loop-item g l = record {
  keyed : IsKeyed g.G.Ground.see g.G.Ground.key_of l.finds;
  rest : adds_to g.G.Ground.key_of g.G.Ground.told_of l.full l.most (found_in g.G.Ground.see l.finds)
      (map g.G.Ground.see (into_iter_items l.item-iterator)) ≡ adds_to g.G.Ground.key_of g.G.Ground.told_of
      l.full l.most (found_in g.G.Ground.see l.fn.finds) (map g.G.Ground.see l.fn.items.items);
}
