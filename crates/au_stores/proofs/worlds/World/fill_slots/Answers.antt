-- Each value goes to its slot, which is there.
use Rattle.std.proofs.Common.{◌+◌, ◌<◌, List, Option, Some, length, arith, ap, sym, ◌∙◌}
use Rattle.std.proofs.lemmas.List.{length-map, length-set}
use Rattle.au_cells.specs.declared.cells.Cell.{Cell}
use Rattle.au_cells.specs.Cells.{low, lows}
use Rattle.au_stores.specs.Stores.{world_of, frames_of, top_frame, slot_count, filled}
use Rattle.au_stores.proofs.StoreLemmas.{top_set}
use Rattle.au_stores.proofs.FrameLemmas.{count_top}
use Rattle.au_stores.proofs.FillLemmas.{filled_short, filled_step}
use Rattle.au_stores.proofs.worlds.World.fill_slots.Goals as goal

pub returns-then-top-from-clause-world : goal.returns-then-top-from-clause-world
returns-then-top-from-clause-world c =
    let w = c.args.self.now in
    let values = c.args.values in
    let size = length-map values.items low in
    let short : slot_count (top_frame w) (world_of w) < c.args.slot + length (lows values.items) = omega (
      arith,
      count_top w,
      size,
      values.ok.0,
      c.len-count.ensures,
      ap (λ (slots : List (Option Cell)). length slots) c.top.ensures,
      c.if-top-from.true,
    ) in
    let some : 0 < length (lows values.items) = omega
    (arith, size, values.ok.0, c.len-count.ensures, c.if-count-eq0.false) in
    sym (filled_short (top_frame w) c.args.slot (lows values.items) (world_of w) short some)

pub overflow_add-at : goal.overflow_add-at
overflow_add-at c =
    let left = ap (λ (cells : List Cell). length cells) c.in-Some.ensures.steps.0 in
    omega (
      arith,
      left,
      c.loop-value.invariant.1,
      c.args.values.ok.0,
      c.args.values.small,
      c.len-count.ensures,
      c.len-count.type_inv,
      c.ranges.slot.fits,
    )

pub loop-value-preserved : goal.loop-value-preserved
loop-value-preserved c =
    let w = c.loop-value.self in
    let at = c.loop-value.at in
    let value = c.in-Some.value in
    let rest = c.next.new.self.rest.items in
    let after = record w { slots = c.put.new.self } in
    let kept = c.loop-value.invariant in
    let is = c.in-Some.ensures.steps.0 in
    let left = ap (λ (cells : List Cell). length cells) is in
    let Piles : Type 0 = List (Option Cell) × List (List (Option Cell)) in
    let world = ap (λ (piles : Piles). record (world_of w) { frames = frames_of piles }) c.put.ensures.new
    ∙ sym (top_set w at (Some value)) in
    let top = ap (λ (piles : Piles). length piles.1) c.put.ensures.new in
    let there : at < slot_count (top_frame w) (world_of w) = omega (
      arith,
      count_top w,
      left,
      kept.1,
      kept.2,
      c.args.values.ok.0,
      c.len-count.ensures,
      ap (λ (slots : List (Option Cell)). length slots) c.top.ensures,
      c.if-top-from.false,
    ) in (
      ap (λ frame. filled frame (at + 1) (lows rest) (world_of after)) top
          ∙ ap (filled (top_frame w) (at + 1) (lows rest)) world
          ∙ sym (filled_step (top_frame w) at (low value) (lows rest) (world_of w) there)
          ∙ ap (λ (cells : List Cell). filled (top_frame w) at (lows cells) (world_of w)) (sym is)
          ∙ kept.0,
      omega (arith, left, kept.1),
      ap (λ (piles : Piles). length piles.0) c.put.ensures.new ∙ length-set w.slots.0 at (Some value)
          ∙ kept.2,
      top ∙ kept.3,
    )
