-- The frame of a number is so far below the running one.
use Rattle.std.proofs.Common.{◌≡◌, ◌<◌, ◌-◌, List, Option, length, slice_get, arith, ap, sym, ◌∙◌}
use Rattle.au_cells.specs.declared.cells.Cell.{Cell}
use Rattle.au_stores.specs.Stores.{world_of, frames_of, top_frame, slot_count}
use Rattle.au_cells.specs.Piles.{pile_at, with_below}
use Rattle.au_stores.proofs.FrameLemmas.{count_top, count_below, name_put, name_below, not_above}
use Rattle.au_stores.proofs.worlds.World.set_name.Goals as goal

pub set_slot-requires : goal.set_slot-requires
set_slot-requires c =
    let w = c.args.self.now in
    let top : c.args.frame ≡ top_frame w = omega (arith, c.depth-depth.ensures, c.if-frame-depth.true) in
    let count = ap (λ n. slot_count n (world_of w)) top ∙ count_top w in
    omega (arith, count, c.requires)

pub overflow_sub-depth-2 : goal.overflow_sub-depth-2
overflow_sub-depth-2 c =
    let low = not_above c.args.self.now c.args.frame c.args.slot c.requires in
    omega (arith, low, c.depth-depth.ensures, c.if-frame-depth.false)

pub put_below-requires-clause-index : goal.put_below-requires-clause-index
put_below-requires-clause-index c =
    let w = c.args.self.now in
    let low = not_above w c.args.frame c.args.slot c.requires in
    let below : c.args.frame < top_frame w =
    omega (arith, low, c.depth-depth.ensures, c.if-frame-depth.false) in
    let count = count_below w c.args.frame below
    ∙ ap (λ n. length (pile_at w.slots.1 (n - 1 - c.args.frame))) (sym c.depth-depth.ensures) in
    omega (arith, count, c.requires)

pub returns-clause-world : goal.returns-clause-world
returns-clause-world c =
    let w = c.args.self.now in
    let low = not_above w c.args.frame c.args.slot c.requires in
    let below : c.args.frame < top_frame w =
    omega (arith, low, c.depth-depth.ensures, c.if-frame-depth.false) in
    ap (λ (piles : List (Option Cell) × List (List (Option Cell))). record (world_of w)
    { frames = frames_of piles })
    (c.put_below.ensures.new ∙ ap (λ n. with_below w.slots (n - 1 - c.args.frame) c.args.slot c.args.held_value)
    c.depth-depth.ensures)
    ∙ name_put w c.args.frame c.args.slot c.args.held_value below

pub returns-clause-old : goal.returns-clause-old
returns-clause-old c =
    let w = c.args.self.now in
    let low = not_above w c.args.frame c.args.slot c.requires in
    let below : c.args.frame < top_frame w =
    omega (arith, low, c.depth-depth.ensures, c.if-frame-depth.false) in
    name_below w c.args.frame c.args.slot c.put_below.result below
    (ap (λ n. slice_get (pile_at w.slots.1 (n - 1 - c.args.frame)) c.args.slot) (sym c.depth-depth.ensures)
    ∙ c.put_below.ensures.old)
