-- What a slot of the running frame holds, in the world that the stores are.
use Rattle.std.proofs.Common.{List, Option, ap, sym, ◌∙◌}
use Rattle.std.specs.Option.{option_map}
use Rattle.au_effects.specs.Parts.{along}
use Rattle.au_cells.specs.declared.cells.Cell.{Cell}
use Rattle.au_cells.specs.Cells.{low}
use Rattle.au_stores.specs.Stores.{world_of, frames_of}
use Rattle.au_stores.proofs.StoreLemmas.{in_top, top_set}
use Rattle.au_stores.proofs.worlds.World.set_slot.Goals as goal

pub returns-clause-world : goal.returns-clause-world
returns-clause-world c =
    let w = c.args.self.now in
    ap (λ (piles : List (Option Cell) × List (List (Option Cell))). record
    (world_of w) { frames = frames_of piles }) c.put.ensures.new
    ∙ sym (top_set w c.args.slot c.args.held_value)

pub returns-clause-old : goal.returns-clause-old
returns-clause-old c =
    sym (in_top c.args.self.now c.args.slot
    ∙ ap (λ (found : Option (Option Cell)). along found (option_map low)) c.put.ensures.old)
