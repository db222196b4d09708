use Rattle.std.proofs.Common.{map}
use Rattle.au_graphs.specs.declared.finding.Finds.{Finds}
use Rattle.au_graphs.specs.Finding.{found_in}
use Rattle.au_graphs.proofs.FindingLemmas.{answer_lists, answer_within, answer_finds, answer_refuses}
use Rattle.au_graphs.proofs.finding.reach.Goals as goal

pub returns-clause-lists : goal.returns-clause-lists
returns-clause-lists g c =
    answer_lists (λ (finds : Finds g.row.G-Item.Denot). found_in g.G.Ground.see finds) g.G.Ground.key_of
    g.met.G.Ground.tells g.G.Ground.told_of c.args.full c.args.most (g.G.Ground.next_of c.args.ground.now)
    (map g.G.Ground.see c.args.starts.items) c.walk_from.result c.walk_from.ensures.gives

pub returns-clause-within : goal.returns-clause-within
returns-clause-within g c =
    answer_within (λ (finds : Finds g.row.G-Item.Denot). found_in g.G.Ground.see finds) g.G.Ground.key_of
    g.met.G.Ground.tells g.G.Ground.told_of c.args.full c.args.most (g.G.Ground.next_of c.args.ground.now)
    (map g.G.Ground.see c.args.starts.items) c.walk_from.result c.walk_from.ensures.gives

pub returns-clause-finds : goal.returns-clause-finds
returns-clause-finds g c =
    answer_finds (λ (finds : Finds g.row.G-Item.Denot). found_in g.G.Ground.see finds) g.G.Ground.key_of
    g.met.G.Ground.tells g.G.Ground.told_of c.args.full c.args.most (g.G.Ground.next_of c.args.ground.now)
    (map g.G.Ground.see c.args.starts.items) c.walk_from.result c.walk_from.ensures.gives

pub returns-clause-refuses : goal.returns-clause-refuses
returns-clause-refuses g c =
    answer_refuses (λ (finds : Finds g.row.G-Item.Denot). found_in g.G.Ground.see finds) g.G.Ground.key_of
    g.met.G.Ground.tells g.G.Ground.told_of c.args.full c.args.most (g.G.Ground.next_of c.args.ground.now)
    (map g.G.Ground.see c.args.starts.items) c.walk_from.result c.walk_from.ensures.gives
