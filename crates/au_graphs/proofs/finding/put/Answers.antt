use Rattle.std.proofs.Common.{◌≡◌, ◌∙◌, sym, ap, map, length, eq-eqb, ne_eqb, Ok, arith}
use Rattle.std.proofs.lemmas.List.{length-map, map_push}
use Rattle.au_graphs.specs.Finding.{found_in}
use Rattle.au_graphs.proofs.KeyLemmas.{was_old, was_new, present, put_old, put_told, put_full, put_last}
use Rattle.au_graphs.proofs.finding.put.Goals as goal

pub returns-then-not-is_new-clause-gives : goal.returns-then-not-is_new-clause-gives
returns-then-not-is_new-clause-gives g c =
    let here = present g.G.Ground.key_of c.in_ok-key.key c.args.finds.now.keys.keys
    (found_in g.G.Ground.see c.args.finds.now) (g.G.Ground.see c.args.item) c.requires.keyed
    c.in_ok-key.ensures in
    put_old g.G.Ground.key_of g.G.Ground.told_of c.args.full c.args.most
    (found_in g.G.Ground.see c.args.finds.now) (g.G.Ground.see c.args.item)
    (was_old c.in_ok-is_new.is_new _ _ c.in_ok-is_new.ensures.added c.if-not-is_new.true here)

pub returns-in-Some-clause-gives : goal.returns-in-Some-clause-gives
returns-in-Some-clause-gives g c =
    let here = present g.G.Ground.key_of c.in_ok-key.key c.args.finds.now.keys.keys
    (found_in g.G.Ground.see c.args.finds.now) (g.G.Ground.see c.args.item) c.requires.keyed
    c.in_ok-key.ensures in
    put_told g.G.Ground.key_of g.G.Ground.told_of c.args.full c.args.most
    (found_in g.G.Ground.see c.args.finds.now) (g.G.Ground.see c.args.item) c.in-Some.limit
    (was_new c.in_ok-is_new.is_new _ _ c.in_ok-is_new.ensures.added c.if-not-is_new.false here)
    (sym c.told.ensures ∙ c.in-Some.is)

pub returns-then-len-most-clause-gives : goal.returns-then-len-most-clause-gives
returns-then-len-most-clause-gives g c =
    let here = present g.G.Ground.key_of c.in_ok-key.key c.args.finds.now.keys.keys
    (found_in g.G.Ground.see c.args.finds.now) (g.G.Ground.see c.args.item) c.requires.keyed
    c.in_ok-key.ensures in
    let many = length-map c.args.finds.now.list.items g.G.Ground.see in
    let size : length (found_in g.G.Ground.see c.args.finds.now) ≡ c.args.most =
    omega (arith, many, c.args.finds.now.list.ok.0) in
    put_full g.G.Ground.key_of g.G.Ground.told_of c.args.full c.args.most
    (found_in g.G.Ground.see c.args.finds.now) (g.G.Ground.see c.args.item)
    (was_new c.in_ok-is_new.is_new _ _ c.in_ok-is_new.ensures.added c.if-not-is_new.false here)
    (sym c.told.ensures ∙ c.in_default.is)
    (eq-eqb _ _ size)

pub returns-clause-gives : goal.returns-clause-gives
returns-clause-gives g c =
    let here = present g.G.Ground.key_of c.in_ok-key.key c.args.finds.now.keys.keys
    (found_in g.G.Ground.see c.args.finds.now) (g.G.Ground.see c.args.item) c.requires.keyed
    c.in_ok-key.ensures in
    let many = length-map c.args.finds.now.list.items g.G.Ground.see in
    let size : length (found_in g.G.Ground.see c.args.finds.now) ≡ c.args.most → ⊥ =
    λ (same : length (found_in g.G.Ground.see c.args.finds.now) ≡ c.args.most). c.if-len-most.false
    (omega (arith, many, c.args.finds.now.list.ok.0, same, c.len.ensures)) in
    put_last g.G.Ground.key_of g.G.Ground.told_of c.args.full c.args.most
    (found_in g.G.Ground.see c.args.finds.now) (g.G.Ground.see c.args.item)
    (was_new c.in_ok-is_new.is_new _ _ c.in_ok-is_new.ensures.added c.if-not-is_new.false here)
    (sym c.told.ensures ∙ c.in_default.is)
    (ne_eqb _ _ size)
    ∙ ap Ok (sym (map_push g.G.Ground.see c.args.finds.now.list.items c.args.item)
    ∙ ap (map g.G.Ground.see) (sym c.in_ok-push.ensures.items))
