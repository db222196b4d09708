use Rattle.std.proofs.Common.{◌<◌, ◌≤◌, map, length, arith}
use Rattle.au_graphs.specs.declared.finding.Finds.{Finds}
use Rattle.std.proofs.lemmas.Result.{err_from_is_err_and}
use Rattle.au_graphs.specs.Finding.{found_in, adds_to, walks}
use Rattle.au_graphs.proofs.FindingLemmas.{first_put, turn, turn_stops, turns_end, stops}
use Rattle.au_graphs.proofs.finding.walk_from.Goals as goal

pub loop-at-init : goal.loop-at-init
loop-at-init g c =
    let first = first_put g.G.Ground.see g.G.Ground.key_of g.met.G.Ground.tells g.G.Ground.told_of c.args.full
    c.args.most (g.G.Ground.next_of c.args.ground.now) (map g.G.Ground.see c.args.starts.items)
    c.new.result.items (found_in g.G.Ground.see c.put_all.new.finds) c.new.ensures.items
    c.in_ok-put_all.ensures.gives in
    record {
      keyed = c.in_ok-put_all.ensures.keyed;
      fine = first.0;
      within = omega arith;
      rest = first.1;
    }

pub loop-at-preserved : goal.loop-at-preserved
loop-at-preserved g c =
    let items = c.loop-at.finds.list in
    let below : c.loop-at.at < length items.items = omega (arith, c.loop-at-test.true, c.len.ensures, items.ok.0) in
    let one = turn g.G.Ground.see g.G.Ground.key_of g.met.G.Ground.tells g.G.Ground.told_of c.args.full
    c.args.most (g.G.Ground.next_of c.args.ground.now) (map g.G.Ground.see c.args.starts.items)
    items.items c.put_all-in-loop-at.new.finds.list.items c.loop-at.at c.index.result.now
    (map g.G.Ground.see c.in_ok-next.next.items) below c.index.ensures c.in_ok-next.ensures
    c.loop-at.invariant.fine c.in_ok-put_all-2.ensures.gives c.loop-at.invariant.rest in
    record {
      keyed = c.in_ok-put_all-2.ensures.keyed;
      fine = one.0;
      within = one.1;
      rest = one.2;
    }

pub returns-in_err-put_all-2-clause-gives : goal.returns-in_err-put_all-2-clause-gives
returns-in_err-put_all-2-clause-gives g c =
    let p = err_from_is_err_and c.from_residual-in_err-put_all-2.result c.from_residual-in_err-put_all-2.ensures.1 in
    let items = c.loop-at.finds.list in
    let below : c.loop-at.at < length items.items = omega (arith, c.loop-at-test.true, c.len.ensures, items.ok.0) in
    rw (p.1, p.2) (stops (λ (u : Unit {0}). found_in g.G.Ground.see c.put_all-in-loop-at.new.finds)
    (λ (finds : Finds g.row.G-Item.Denot). found_in g.G.Ground.see finds) c.in_err-put_all-2.field-0.0
    (adds_to g.G.Ground.key_of g.G.Ground.told_of c.args.full c.args.most
    (found_in g.G.Ground.see c.loop-at.finds) (map g.G.Ground.see c.in_ok-next.next.items))
    (walks g.G.Ground.key_of g.G.Ground.told_of c.args.full c.args.most (g.G.Ground.next_of c.args.ground.now)
    (map g.G.Ground.see c.args.starts.items))
    (λ limit put. turn_stops g.G.Ground.see g.G.Ground.key_of g.met.G.Ground.tells g.G.Ground.told_of
    c.args.full c.args.most (g.G.Ground.next_of c.args.ground.now) (map g.G.Ground.see c.args.starts.items)
    items.items c.loop-at.at c.index.result.now (map g.G.Ground.see c.in_ok-next.next.items) limit below
    c.index.ensures c.in_ok-next.ensures c.loop-at.invariant.fine c.loop-at.invariant.rest put)
    c.in_err-put_all-2.ensures.gives)

pub returns-clause-gives : goal.returns-clause-gives
returns-clause-gives g c =
    let items = c.loop-at.finds.list in
    let past : length items.items ≤ c.loop-at.at = omega (arith, c.loop-at-test.false, c.len.ensures, items.ok.0) in
    turns_end g.G.Ground.see g.G.Ground.key_of g.met.G.Ground.tells g.G.Ground.told_of c.args.full c.args.most
    (g.G.Ground.next_of c.args.ground.now) (map g.G.Ground.see c.args.starts.items)
    items.items c.loop-at.at past c.loop-at.invariant.within c.loop-at.invariant.fine c.loop-at.invariant.rest
