use Rattle.std.proofs.Common.{map, length, ap, sym, ◌∙◌}
use Rattle.std.proofs.lemmas.List.{length-map}
use Rattle.au_effects.specs.Values.{box}
use Rattle.au_effects.specs.Answers as answer
use Rattle.au_low.specs.Machines.{Low}
use Rattle.au_cells.proofs.CellLemmas.{box_is}
use Rattle.au_stores.specs.Stores.{world_of, held_of}
use Rattle.au_stores.proofs.worlds.World.make_box.Goals as goal

pub returns-clause-does : goal.returns-clause-does
returns-clause-does c =
    let births = c.args.self.now.births in
    let after = world_of c.bear.new.self in
    ap (λ (value : Low). answer.gives value after) (box_is c.in_ok-id.id)
    ∙ ap (λ n. answer.gives (box n) after) (c.in_ok-id.ensures.id ∙ sym (length-map births held_of))
    ∙ ap (answer.gives (box (length (map held_of births)))) c.in_ok-id.ensures.world
