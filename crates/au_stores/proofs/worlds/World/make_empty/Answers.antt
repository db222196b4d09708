use Rattle.std.proofs.Common.{List, map, length, codes, ap, sym, ◌∙◌}
use Rattle.std.proofs.lemmas.List.{length-map}
use Rattle.au_effects.specs.Values.{buffer}
use Rattle.au_effects.specs.Worlds as effect
use Rattle.au_effects.specs.Answers as answer
use Rattle.au_low.specs.Machines.{Low}
use Rattle.au_cells.specs.declared.cells.Cell.{Cell}
use Rattle.au_cells.specs.Cells.{lows}
use Rattle.au_cells.proofs.CellLemmas.{buffer_is}
use Rattle.au_stores.specs.Stores.{world_of, held_of}
use Rattle.au_stores.proofs.worlds.World.make_empty.Goals as goal

pub returns-clause-does : goal.returns-clause-does
returns-clause-does c =
    let w = world_of c.args.self.now in
    let births = c.args.self.now.births in
    let after = world_of c.bear.new.self in
    let id = length (map held_of births) in
    ap (λ (value : Low). answer.gives value after) (buffer_is c.in_ok-id.id)
    ∙ ap (λ n. answer.gives (buffer n) after) (c.in_ok-id.ensures.id ∙ sym (length-map births held_of))
    ∙ ap (answer.gives (buffer id)) c.in_ok-id.ensures.world
    ∙ ap (λ (cells : List Cell). answer.gives (buffer id)
    (effect.bears c.args.of (codes "Standard.Buffer") (effect.elements (lows cells)) w)) c.new.ensures.items
