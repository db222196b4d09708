use Rattle.std.proofs.Common.{map, refl, ap, sym, ◌∙◌}
use Rattle.au_effects.specs.Answers as answer
use Rattle.au_low.specs.Machines.{Low}
use Rattle.au_cells.specs.Cells.{low}
use Rattle.au_cells.proofs.CellLemmas.{unit_is}
use Rattle.au_stores.specs.Stores.{world_of, held_of, elements_of}
use Rattle.au_stores.proofs.CallLemmas.{insert_is}
use Rattle.au_stores.proofs.worlds.World.insert_back.Goals as goal

pub returns-clause-does : goal.returns-clause-does
returns-clause-does c =
    let w = world_of c.args.self.now in
    let after = world_of c.tell_use.new.self in
    ap (λ (value : Low). answer.gives value after) unit_is
    ∙ insert_is (low c.args.reference.now) (low c.args.new) w after c.in-Some.borrow c.in-Some.id
    (map held_of c.inserted.new.births) (elements_of c.in-Some.id w) c.in-Some.ensures refl
    (sym c.if-not-branch.false ∙ c.in_ok-inserted.ensures.done) c.in_ok-inserted.ensures.births
    c.in_ok-tell_use.ensures.world
