-- The root is in the first of the slots.
use Rattle.std.proofs.Common.{List, Option, Some, codes, ap, ◌∙◌}
use Rattle.au_effects.specs.Values.{root}
use Rattle.au_effects.specs.Worlds as effect
use Rattle.au_effects.specs.Places.{name_set}
use Rattle.au_low.specs.Machines.{Low}
use Rattle.au_low.specs.Runs.{first_world}
use Rattle.au_cells.specs.declared.cells.Cell as cell
use Rattle.au_cells.specs.Cells.{low}
use Rattle.au_cells.proofs.CellLemmas.{root_is}
use Rattle.au_stores.specs.Stores.{world_of}
use Rattle.au_stores.proofs.FillLemmas.{root_put}
use Rattle.au_stores.proofs.worlds.World.with_root.Goals as goal

pub returns-clause-world : goal.returns-clause-world
returns-clause-world c =
    let begun = c.in_ok-world in
    c.in_ok-bear.ensures.world
    ∙ ap (effect.bears 0 (codes "Austral.Pervasive") effect.nothing)
    (c.set_slot.ensures.world
    ∙ ap (λ frame. name_set frame 0 (Some (low (cell.Root 0))) (world_of begun.world)) begun.ensures.frame
    ∙ ap (λ (value : Low). name_set 0 0 (Some value) (world_of begun.world)) (root_is 0)
    ∙ ap (name_set 0 0 (Some (root 0))) begun.ensures.world
    ∙ ap (λ (slots : List (Option Low)). first_world c.args.keeps slots) (root_put c.args.slots c.requires))
