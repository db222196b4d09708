-- One frame, of empty slots.
use Rattle.std.proofs.Common.{◌++◌, [], ◌∷◌, List, Option, None, replicate, ap, ◌∙◌}
use Rattle.au_low.specs.Machines.{Low, LowWorld}
use Rattle.au_cells.specs.declared.cells.Cell.{Cell}
use Rattle.au_stores.specs.Stores.{world_of, frames_of}
use Rattle.au_stores.proofs.FillLemmas.{empty_low}
use Rattle.au_stores.proofs.worlds.World.with_slots.Goals as goal

pub returns-clause-world : goal.returns-clause-world
returns-clause-world c =
    let Piles : Type 0 = List (Option Cell) × List (List (Option Cell)) in
    let first = world_of c.new-world.result in
    ap (λ (piles : Piles). record first { frames = frames_of piles })
    (c.in_ok-fill_empty.ensures
    ∙ ap (λ (piles : Piles). (piles.0 ++ replicate c.args.slots None, piles.1)) c.new-world.ensures.slots)
    ∙ ap (λ (slots : List (Option Low)). record first { frames = slots ∷ [] }) (empty_low c.args.slots)
    ∙ ap (λ (w : LowWorld). record w { frames = replicate c.args.slots None ∷ [] }) c.new-world.ensures.world
