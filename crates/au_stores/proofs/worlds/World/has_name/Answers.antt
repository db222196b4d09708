-- The frame of a number is so far below the running one.
use Rattle.std.proofs.Common.{◌<◌, ◌-◌, nat_lt, slice_get, arith, ap, sym, ◌∙◌}
use Rattle.std.proofs.lemmas.Bool.{le-ltb}
use Rattle.au_stores.specs.Stores.{top_frame}
use Rattle.au_stores.proofs.FrameLemmas.{count_none, count_found, count_missing}
use Rattle.au_stores.proofs.worlds.World.has_name.Goals as goal

pub returns-then-depth-frame : goal.returns-then-depth-frame
returns-then-depth-frame c =
    let w = c.args.self.now in
    let above : top_frame w < c.args.frame = omega (arith, c.depth-depth.ensures, c.if-depth-frame.true) in
    sym (ap (nat_lt c.args.slot) (count_none w c.args.frame above) ∙ le-ltb c.args.slot 0 (omega arith))

pub returns-in-Some : goal.returns-in-Some
returns-in-Some c =
    let w = c.args.self.now in
    let below : c.args.frame < top_frame w = omega
    (arith, c.depth-depth.ensures, c.if-depth-frame.false, c.if-frame-depth.false) in
    let found = ap (λ n. slice_get w.slots.1 (n - 1 - c.args.frame)) (sym c.depth-depth.ensures)
    ∙ sym c.in-Some.ensures in
    ap (nat_lt c.args.slot) (sym (count_found w c.args.frame c.in-Some.slots.now below found))

pub returns-in-None : goal.returns-in-None
returns-in-None c =
    let w = c.args.self.now in
    let below : c.args.frame < top_frame w = omega
    (arith, c.depth-depth.ensures, c.if-depth-frame.false, c.if-frame-depth.false) in
    let found = ap (λ n. slice_get w.slots.1 (n - 1 - c.args.frame)) (sym c.depth-depth.ensures)
    ∙ sym c.in-None.ensures in
    sym (ap (nat_lt c.args.slot) (count_missing w c.args.frame below found)
    ∙ le-ltb c.args.slot 0 (omega arith))
