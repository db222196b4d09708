-- The frame of a number is so far below the running one.
use Rattle.std.proofs.Common.{◌<◌, ◌-◌, Some, None, slice_get, arith, ap, sym, ◌∙◌}
use Rattle.std.specs.Option.{option_map}
use Rattle.au_stores.specs.Stores.{slots_of, top_frame}
use Rattle.au_stores.proofs.StoreLemmas.{below_slots, no_slots, name_in}
use Rattle.au_stores.proofs.worlds.World.name.Goals as goal

pub returns-then-depth-frame : goal.returns-then-depth-frame
returns-then-depth-frame c =
    let w = c.args.self.now in
    let above : top_frame w < c.args.frame = omega (arith, c.depth-depth.ensures, c.if-depth-frame.true) in
    name_in w c.args.frame c.args.slot None (no_slots w c.args.frame above)

pub returns-in-Some : goal.returns-in-Some
returns-in-Some c =
    let w = c.args.self.now in
    let below : c.args.frame < top_frame w = omega
    (arith, c.depth-depth.ensures, c.if-depth-frame.false, c.if-frame-depth.false) in
    let found = ap (λ n. slice_get w.slots.1 (n - 1 - c.args.frame)) (sym c.depth-depth.ensures)
    ∙ sym c.in-Some.ensures in
    c.held_value.ensures
    ∙ name_in w c.args.frame c.args.slot (Some (slots_of c.in-Some.slots.now))
    (below_slots w c.args.frame below ∙ ap (option_map slots_of) found)

pub returns-in-None : goal.returns-in-None
returns-in-None c =
    let w = c.args.self.now in
    let below : c.args.frame < top_frame w = omega
    (arith, c.depth-depth.ensures, c.if-depth-frame.false, c.if-frame-depth.false) in
    let found = ap (λ n. slice_get w.slots.1 (n - 1 - c.args.frame)) (sym c.depth-depth.ensures)
    ∙ sym c.in-None.ensures in
    name_in w c.args.frame c.args.slot None (below_slots w c.args.frame below
    ∙ ap (option_map slots_of) found)
