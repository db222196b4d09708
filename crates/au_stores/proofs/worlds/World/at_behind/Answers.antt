-- The part of what the reference reaches.
use Rattle.std.proofs.Common.{Option, ap, sym, ◌∙◌}
use Rattle.std.specs.Option.{option_map, option_copied}
use Rattle.au_effects.specs.Parts.{along, part}
use Rattle.au_effects.specs.Places.{base_at}
use Rattle.au_low.specs.Machines.{Low}
use Rattle.au_cells.specs.Cells.{low, base_of}
use Rattle.au_stores.specs.Stores.{world_of}
use Rattle.au_stores.proofs.PartLemmas.{behind_along, part_behind}
use Rattle.au_stores.proofs.worlds.World.at_behind.Goals as goal

pub returns-in_err-at : goal.returns-in_err-at
returns-in_err-at c =
    let one = c.args.one.now in
    ap (λ found. option_map low (option_copied found)) c.from_residual.ensures
    ∙ ap (λ (found : Option Low). along found (part c.args.path.now)) c.in_err-at.ensures
    ∙ sym (behind_along one.path c.args.path.now (base_at (base_of one.start) (world_of c.args.self.now))
    (λ value. part_behind one.path c.args.path.now value))

pub returns : goal.returns
returns c =
    let one = c.args.one.now in
    c.part.ensures
    ∙ ap (λ (found : Option Low). along found (part c.args.path.now)) c.in_ok-at.ensures
    ∙ sym (behind_along one.path c.args.path.now (base_at (base_of one.start) (world_of c.args.self.now))
    (λ value. part_behind one.path c.args.path.now value))
