use Rattle.std.proofs.Common.{◌≡◌, ◌≤◌, ◌+◌, ◌-◌, ℕ, length, map}
use Rattle.au_graphs.specs.Walks.{IsWithin, walk}
use Rattle.au_graphs.specs.Finding.{IsKeyed, by_key, found_in, walks}
use Rattle.au_graphs.proofs.finding.walk_from.Given as goal

-- the walk from here on gives what the whole does
abbrev pub invariant-loop-at : goal.invariant-loop-at
invariant-loop-at g l = record {
  keyed : IsKeyed g.G.Ground.see g.G.Ground.key_of l.finds;
  fine : IsWithin (by_key g.G.Ground.key_of) g.G.Ground.told_of l.most (found_in g.G.Ground.see l.finds);
  within : l.at ≤ length l.finds.list.items;
  rest : (f : ℕ) → f + l.at ≡ l.most + 1 → walks g.G.Ground.key_of g.G.Ground.told_of l.full l.most
      (g.G.Ground.next_of l.ground) (map g.G.Ground.see l.fn.starts.items) ≡ walk (by_key g.G.Ground.key_of)
      g.G.Ground.told_of l.full l.most (g.G.Ground.next_of l.ground) f (found_in g.G.Ground.see l.finds) l.at;
}

abbrev pub decreases-loop-at : goal.decreases-loop-at
decreases-loop-at g l = l.most - l.at
