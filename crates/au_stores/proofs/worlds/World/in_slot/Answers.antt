-- What a slot of the running frame holds, in the world that the stores are.
use Rattle.std.proofs.Common.{List, Option, Some, slice_get, ap, ◌∙◌}
use Rattle.au_effects.specs.Parts.{along}
use Rattle.au_cells.specs.declared.cells.Cell.{Cell}
use Rattle.au_stores.specs.Stores.{slots_of, top_frame}
use Rattle.au_stores.proofs.StoreLemmas.{name_in, top_slots}
use Rattle.au_stores.proofs.worlds.World.in_slot.Goals as goal

pub returns : goal.returns
returns c =
    let w = c.args.self.now in
    c.held_value.ensures
    ∙ ap (λ (slots : List (Option Cell)). along (slice_get (slots_of slots) c.args.slot) (λ value. value))
    c.top.ensures
    ∙ name_in w (top_frame w) c.args.slot (Some (slots_of w.slots.0)) (top_slots w)
