-- What is told before the slots are filled may be told after.
use Rattle.std.proofs.Common.{Some, ap, sym, ◌∙◌}
use Rattle.std.specs.Option.{option_map}
use Rattle.au_low.specs.Machines.{LowWorld}
use Rattle.au_cells.specs.Cells.{lows}
use Rattle.au_stores.specs.Stores.{world_of, top_frame, taken}
use Rattle.au_stores.proofs.FillLemmas.{filled_taken}
use Rattle.au_stores.proofs.worlds.World.take_apart.Goals as goal

pub returns-then-not-fill_slots-clause-world : goal.returns-then-not-fill_slots-clause-world
returns-then-not-fill_slots-clause-world c =
    let w = c.args.self.now in
    ap (option_map (taken c.args.how)) c.if-not-fill_slots.ensures.world
    ∙ sym (filled_taken c.args.how (top_frame w) c.args.slot (lows c.args.fields.items) (world_of w))

pub returns-clause-world : goal.returns-clause-world
returns-clause-world c =
    let w = c.args.self.now in
    ap (λ (one : LowWorld). Some one) c.in_ok-tell_taken.ensures.world
    ∙ ap (option_map (taken c.args.how)) c.if-not-fill_slots.ensures.world
    ∙ sym (filled_taken c.args.how (top_frame w) c.args.slot (lows c.args.fields.items) (world_of w))
